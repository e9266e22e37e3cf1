-- The text of each form, of tokens, and of an open run or piece and what follows.
-- Assumes nothing.
use Rattle.std.specs.Prelude.{ℕ, zero, suc, ◌+◌, ◌*◌, ◌≤◌, ◌<◌, ◌≡◌, Bool, true, false, ◌≢◌, List, ◌∷◌, ◌++◌}
use Rattle.rules.specs.Chart.{Token, token}
use Rattle.rules.specs.declared.Kind.{Kind}
use Rattle.rules.specs.declared.Kind.TheVariants.{Sn as sn, Standard as standard}
use Rattle.rules.specs.declared.StreamBreakdownLevel.TheVariants as Level
use Rattle.rules.specs.Slices.{paired}
use Rattle.sn_text.specs.Sn.{limit_of}
use Rattle.standard_text.specs.Standard.{standard_of, standard_from}
use Rattle.sn_text.specs.SnParts.{sn_of}
use Rattle.text_buffer.specs.Runs.{run_token}
use Rattle.breakdown.specs.declared.form.Form.{Form}
use Rattle.breakdown.specs.declared.form.Form.TheVariants.{Sn, Standard}
use Rattle.text_buffer.specs.declared.run.Run.{Run}

abbrev pub sn_form : ℕ → Form
sn_form k = Sn k

abbrev pub standard_form : ℕ → Bool → Form
standard_form k b = Standard k b

-- the form of each kind; Total is not made of tokens
abbrev pub form_of : Kind → Form
form_of (sn mode) = sn_form (limit_of mode)
form_of (standard Level.Detailed) = standard_form 0 false
form_of (standard Level.Partial) = standard_form 0 true
form_of (standard Level.Simple) = standard_form 1 true
form_of (standard Level.Total) = standard_form 0 false

abbrev pub is_total : Kind → Bool
is_total (sn mode) = false
is_total (standard Level.Detailed) = false
is_total (standard Level.Partial) = false
is_total (standard Level.Simple) = false
is_total (standard Level.Total) = true

-- the forms of the six texts that the pass writes
abbrev pub pass_form : ℕ → Form
pass_form zero = sn_form 0
pass_form (suc zero) = sn_form 1
pass_form (suc (suc zero)) = sn_form 4
pass_form (suc (suc (suc zero))) = standard_form 0 false
pass_form (suc (suc (suc (suc zero)))) = standard_form 0 true
pass_form (suc (suc (suc (suc (suc i))))) = standard_form 1 true

-- the text of some tokens
abbrev pub text_of : Form → List Token → List ℕ
text_of (Sn k) ts = sn_of k ts
text_of (Standard k b) ts = standard_of b k ts

-- the text of an open run and the tokens after it; in a standard text it is a piece, of class 1
abbrev pub open_text : Form → Run → List Token → List ℕ
open_text (Sn k) r ts = sn_of k (run_token r ∷ ts)
open_text (Standard k b) r ts = standard_from b k r.length r.starred ts

-- the same, the tokens of one part coming first
abbrev pub part_text : Form → Run → List ℕ → List ℕ → List Token → List ℕ
part_text f r cs ns more = open_text f r (paired cs ns ++ more)

-- may a run of class c be open in a text?
abbrev pub class_in : Form → ℕ → Type 0
class_in (Sn k) c = Unit {0}
class_in (Standard k b) c = c ≡ 1

-- a run that is open; one of a standard text is a piece
pub record Open (f : Form) (r : Run) : Type 0 where
  pub run : r.class ≢ 0
  pub low : r.class ≤ 4
  pub piece : class_in f r.class

-- the run that is open after a part of so many tokens
pub record OpenNext (f : Form) (r : Run) (tokens : ℕ) (u : Run) : Type 0 where
  pub run : Open f u
  pub small : u.length ≤ r.length + 4294967296 * tokens

-- the open run or piece that the first token is
pub record FirstRun (f : Form) (c n : ℕ) (r : Run) : Type 0 where
  pub run : Open f r
  pub text : (ts : List Token) → text_of f (token c n false ∷ ts) ≡ open_text f r ts
  pub long : r.length ≡ n
  pub small : n < 4294967296
