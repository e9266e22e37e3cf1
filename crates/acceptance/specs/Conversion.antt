-- Document 02, A.5, of every call of sn_to_standard that keeps its promise, over charts of any length. `t` is the SN detailed text it is given.
-- Assumes nothing.
use Rattle.std.specs.Prelude.{ℕ, ◌≤◌, ◌≡◌, ◌↔◌, ◌⊎◌, ◌≢◌, List, [], length}
use Rattle.number.specs.Questions.{filled}
use Rattle.number.specs.declared.Written.{Written}
use Rattle.rules.specs.Chart.{Token, classes, active}
use Rattle.rules.specs.Slices.{total}
use Rattle.sn_to_standard.specs.Converted.{with_gaps}
use Rattle.sn_to_standard.specs.Promises.{SnToStandard}
use Rattle.sn_to_standard.specs.Laws.{sn_text, standard_text, SomeChart, TwoCharts, Ordered, writing}

-- the SN detailed writing of items in order, or the empty text, with at most 1,048,576 measures, an undecided gap taken as 0
pub record WithinRules (t : List ℕ) : Type 0 where
  pub items : List Token
  pub written : t ≡ writing items
  pub ordered : (items ≡ []) ⊎ Ordered items
  pub few : total (with_gaps items) ≤ 1048576

pub record Answered (t old new : List ℕ) (r : Written) : Type 0 where
  -- the reader takes exactly those: all others are refused by 18, and none of them is
  pub within : (r.refused ≢ 18) ↔ WithinRules t
  -- "an accepted text gets the one standard text of every chart that has it"; some chart of the domain has it
  pub some : r.refused ≡ 0 → SomeChart t
  pub one : r.refused ≡ 0 → (m : List ℕ) → sn_text m ≡ t → (r.length ≡ length (standard_text m)) × (new ≡ filled old (standard_text m))
  -- "undecided is answered exactly when two charts with that SN text have different standard texts"
  pub undecided : r.refused ≢ 18 → (r.refused ≡ 19) ↔ TwoCharts t
  -- a chart's own SN detailed text is inside the rules
  pub own : (m : List ℕ) → sn_text m ≡ t → length (active (classes m)) ≤ 1048576 → r.refused ≢ 18

pub record Conversion : Type 0 where
  pub answered : (t old new : List ℕ) (r : Written) → SnToStandard t old new r → Answered t old new r
