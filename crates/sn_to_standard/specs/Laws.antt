-- Document 02, A.5, over charts of any length: "For texts that pass 18: an accepted text gets the one standard text of every chart that has it,
-- and undecided is answered exactly when two charts with that SN text have different standard texts."
-- Assumes nothing.
use Rattle.std.specs.Prelude.{ℕ, ◌^◌, ◌≤◌, ◌<◌, ◌≡◌, false, ◌↔◌, ◌⊎◌, ◌≢◌, List, [], ◌∷◌, map, length, get_or}
use Rattle.number.specs.Questions.{first_no, filled}
use Rattle.number.specs.declared.Written.{Written}
use Rattle.rules.specs.Chart.{Token, token, classes, active}
use Rattle.rules.specs.Reduced.{gap, item}
use Rattle.rules.specs.declared.Kind.TheVariants.{Sn as sn, Standard as standard}
use Rattle.rules.specs.Texts.{text, render}
use Rattle.rules.specs.declared.BreakdownMode.TheVariants as Mode
use Rattle.rules.specs.declared.StreamBreakdownLevel.TheVariants as Level
use Rattle.sn_to_standard.specs.Reader.{inside, reading}
use Rattle.sn_to_standard.specs.Converted.{within_rules, decided, converted}
use Rattle.sn_to_standard.specs.Promises.{SnToStandard}

abbrev pub sn_text : List ℕ → List ℕ
sn_text m = text (sn Mode.Detailed) m

abbrev pub standard_text : List ℕ → List ℕ
standard_text m = text (standard Level.Detailed) m

-- a chart: its densities are u32
abbrev pub Chart : List ℕ → Type 0
Chart m = (i : ℕ) → i < length m → get_or m i 0 < 2 ^ 32

abbrev pub Passes18 : List ℕ → Type 0
Passes18 t = first_no (within_rules (reading t) ∷ []) ≡ 0

abbrev pub Passes19 : List ℕ → Type 0
Passes19 t = first_no (decided (reading t) ∷ []) ≡ 0

-- a chart of the domain with the SN text t
pub record SomeChart (t : List ℕ) : Type 0 where
  pub m : List ℕ
  pub chart : Chart m
  pub few : length m ≤ 1048576
  pub has : sn_text m ≡ t

-- two charts with the SN text t and different standard texts
pub record TwoCharts (t : List ℕ) : Type 0 where
  pub a : List ℕ
  pub b : List ℕ
  pub chart-a : Chart a
  pub chart-b : Chart b
  pub has-a : sn_text a ≡ t
  pub has-b : sn_text b ≡ t
  pub differ : standard_text a ≢ standard_text b

-- what holds of a text that passes 18
pub record Converts (t : List ℕ) : Type 0 where
  -- some chart has it
  pub some : SomeChart t
  -- accepted: every chart that has it has the standard text that is written
  pub one : Passes19 t → (m : List ℕ) → sn_text m ≡ t → standard_text m ≡ converted t
  -- undecided exactly when two charts differ
  pub two : ¬ (Passes19 t) ↔ TwoCharts t

-- what holds of a call for the text t that keeps its promise
pub record Answers (t old new : List ℕ) (r : Written) : Type 0 where
  -- accepted: some chart has t, and what is written is the standard text of each one that has
  pub some : r.refused ≡ 0 → SomeChart t
  pub right : r.refused ≡ 0 → (m : List ℕ) → sn_text m ≡ t → (r.length ≡ length (standard_text m)) × (new ≡ filled old (standard_text m))
  -- undecided is answered exactly when two charts differ
  pub exactly : Passes18 t → (r.refused ≡ 19) ↔ TwoCharts t

-- a run: class 1 to 4, a length from 1
pub record Run (c n : ℕ) : Type 0 where
  pub class-least : 1 ≤ c
  pub class-most : c ≤ 4
  pub long : 1 ≤ n

-- items in order: "The first and last items are runs, and no two breaks are neighbours"; breaks are from 2
pub data Ordered : List Token → Type 0 where
  last : {c n : ℕ} → Run c n → Ordered (token c n false ∷ [])
  next : {c n : ℕ} {ts : List Token} → Run c n → Ordered ts → Ordered (token c n false ∷ ts)
  over : {c n k : ℕ} {ts : List Token} → Run c n → 2 ≤ k → Ordered ts → Ordered (token c n false ∷ token 0 k false ∷ ts)

-- their SN detailed writing
abbrev pub writing : List Token → List ℕ
writing ts = render (sn Mode.Detailed) (map (item gap) ts)

-- the reader takes the writings of such items, and the empty text, and nothing else
abbrev pub ReadsExactly : Type 0
ReadsExactly = (t : List ℕ) (ts : List Token) → (reading t ≡ inside ts) ↔ ((t ≡ writing ts) × ((ts ≡ []) ⊎ Ordered ts))

-- a chart's own text is inside the rules, and passes 18 if the active part has at most 1,048,576 measures
pub record OwnText (m : List ℕ) : Type 0 where
  pub read : (ts : List Token) × (reading (sn_text m) ≡ inside ts)
  pub passes : length (active (classes m)) ≤ 1048576 → Passes18 (sn_text m)

pub record SnToStandardLaws : Type 0 where
  pub exact : ReadsExactly
  pub converts : (t : List ℕ) → Passes18 t → Converts t
  pub own : (m : List ℕ) → OwnText m
  pub answers : (t old new : List ℕ) (r : Written) → SnToStandard t old new r → Answers t old new r
