-- What a reader can expect of counts and of the share call besides the numbers themselves.
-- Assumes nothing.
use Rattle.std.specs.Prelude.{ℕ, ◌+◌, ◌≤◌, ◌≡◌, List, ◌++◌, length, replicate}
use Rattle.rules.specs.Chart.{classes, active}
use Rattle.rules.specs.Demand.{NoStream}
use Rattle.rules.specs.declared.StreamCounts.{StreamCounts}
use Rattle.counts.specs.Promises.{share_answer}

-- Every measure of a chart m is in its counts c (document 02, A.6)
pub record AllCounted (m : List ℕ) (c : StreamCounts) : Type 0 where
  -- "the four run counts, sn_breaks, lead and tail add up to the number of measures"
  pub sum :
      c.run16_streams + c.run20_streams + c.run24_streams + c.run32_streams + c.sn_breaks + c.lead + c.tail ≡ length m
  -- "lead and tail, the measures before and after the active part": so many breaks, the active part, so many breaks
  pub parts : classes m ≡ replicate c.lead 0 ++ (active (classes m) ++ replicate c.tail 0)
  -- "a stream-free chart has all its measures in lead"
  pub stream_free : NoStream (classes m) → (c.lead ≡ length m) × (c.tail ≡ 0)

pub record ShareLaws : Type 0 where
  -- at most 10,000
  pub most : (m : List ℕ) → (share_answer m).share ≤ 10000
  -- it depends on the active part alone: charts of the domain whose active parts have the same classes get the same answer, refusal by 7
  -- included, whatever their lead-ins and tails are
  pub active_alone : (a b : List ℕ) → length a ≤ 1048576 → length b ≤ 1048576 → active (classes a) ≡ active (classes b) → share_answer a ≡ share_answer b
