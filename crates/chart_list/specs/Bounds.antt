-- Bounds that the readers of a list promise.
-- Assumes nothing.
use Rattle.std.specs.Prelude.{ℕ, ◌<◌, ◌≤◌, List, length}
use Rattle.std.specs.Counts.{IsPrefixLen}
use Rattle.chart_list.specs.declared.cases.Case.{Case}
use Rattle.chart_list.specs.declared.read.Chart.{Chart}

-- next_chart: each line brings the reader further within the list, and the measures stand in `out`
pub record ReadChart (list : List ℕ) (at : ℕ) (out : List ℕ) (r : Chart) : Type 0 where
  pub within : r.next ≤ length list
  pub further : at < length list → at < r.next
  pub fit : IsPrefixLen r.measures out

-- case_at: a case stands within the list, and brings its reader further
pub record CaseAt (list : List ℕ) (at : ℕ) (r : Case) : Type 0 where
  pub order : r.start ≤ r.end
  pub within : r.end ≤ length list
  pub further : at < r.end
