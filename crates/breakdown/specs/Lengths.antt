-- What the functions that measure a text part by part ask and promise.
-- Assumes nothing.
use Rattle.std.specs.Prelude.{ℕ, ◌+◌, ◌*◌, ◌^◌, ◌≤◌, ◌<◌, ◌≡◌, true, false, List, [], ◌∷◌, length, get_or}
use Rattle.rules.specs.Chart.{Token}
use Rattle.text_buffer.specs.Parts.{TokensBehind}
use Rattle.text_buffer.specs.Runs.{run_text}
use Rattle.breakdown.specs.Forms.{sn_form, standard_form, pass_form, text_of, open_text, part_text, Open, OpenNext, FirstRun}
use Rattle.breakdown.specs.declared.form.Form.{Form}
use Rattle.breakdown.specs.declared.length.Due.{Due}
use Rattle.text_buffer.specs.declared.run.Tally.{Tally}

-- the first token, and nothing before it
pub record FirstTally (f : Form) (c n : ℕ) (t : Tally) : Type 0 where
  pub first : FirstRun f c n t.run
  pub none : t.length ≡ 0

-- a tally that tokens in two slices follow
pub record TallyReady (f : Form) (t : Tally) (cs ns : List ℕ) : Type 0 where
  pub behind : TokensBehind t.run.class cs ns
  pub run : Open f t.run
  pub small : t.run.length ≤ 2 ^ 62
  pub short : t.length ≤ 2 ^ 62

-- the tally t, and u after those tokens: both say one length, whatever follows
pub record TallyOn (f : Form) (t : Tally) (cs ns : List ℕ) (u : Tally) : Type 0 where
  pub same : (more : List Token) → t.length + length (part_text f t.run cs ns more) ≡ u.length + length (open_text f u.run more)
  pub short : u.length ≤ t.length + 47 * length cs
  pub next : OpenNext f t.run (length cs) u.run

-- the length, with the last run or piece
abbrev pub ended_length : Tally → ℕ
ended_length t = t.length + length (run_text t.run)

-- tally i of six
abbrev pub tally_at : List Tally → ℕ → Tally
tally_at ts i = get_or ts i (record { run = record { length = 0; starred = false; class = 0 }; length = 0 })

-- of each of the six forms of the pass and its tally
abbrev pub each : (Form → Tally → Type 0) → List Tally → Type 0
each P ts = (i : ℕ) → i < 6 → P (pass_form i) (tally_at ts i)

-- of each of them and its two tallies
abbrev pub both_each : (Form → Tally → Tally → Type 0) → List Tally → List Tally → Type 0
both_each P ts us = (i : ℕ) → i < 6 → P (pass_form i) (tally_at ts i) (tally_at us i)

-- the lengths of six texts, with the last run or piece of each
abbrev pub AllEnded : List Tally → List ℕ → Type 0
AllEnded ts r = (i : ℕ) → i < 6 → get_or r i 0 ≡ ended_length (tally_at ts i)

-- the lengths of the six texts of some tokens
abbrev pub six_lengths : List Token → List ℕ
six_lengths ts =
    length (text_of (sn_form 0) ts)
    ∷ length (text_of (sn_form 1) ts)
    ∷ length (text_of (sn_form 4) ts)
    ∷ length (text_of (standard_form 0 false) ts)
    ∷ length (text_of (standard_form 0 true) ts)
    ∷ length (text_of (standard_form 1 true) ts)
    ∷ []

-- what is due for some tokens
pub record DueOf (ts : List Token) (r : Due) : Type 0 where
  pub number : r.tokens ≡ length ts
  pub bytes : r.lengths ≡ six_lengths ts
