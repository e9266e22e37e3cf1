-- The tokens of an active part's measures, part by part.
-- Assumes nothing.
use Prim.Native.Nat.{ℕ, zero, suc, ◌≤◌}
use mathlib.Core.Path.{◌≡◌, refl, sym, ap}
use mathlib.Core.Logic.{◌≢◌}
use mathlib.Core.List.{List, [], ◌∷◌, ◌++◌}
use native.Mathlib.Omega.{arith}
use lib.ListN.{length, get_or}
use Rattle.rules.specs.Chart.{Token, token, class}
use Rattle.rules.specs.Slices.{paired}
use Rattle.text_buffer.specs.MayFollow.{MayFollow}
use Rattle.text_buffer.proofs.Reading.{behind-low}

-- the class of the last token, or c if there is none
abbrev pub last_class : ℕ → List Token → ℕ
last_class c [] = c
last_class c (t ∷ ts) = last_class (class t) ts

-- of some tokens that others follow: the first ones are such tokens themselves, where the last of them is a run, and so are the others
pub behind-front : (c : ℕ) (ts us : List Token) → MayFollow c (ts ++ us) → last_class c ts ≢ 0 → MayFollow c ts
behind-front c [] us h r = (r, behind-low c us h)
behind-front c (token d n s ∷ ts) us h r = (h.0, behind-front d ts us h.1 r, h.2)

pub behind-back : (c : ℕ) (ts us : List Token) → MayFollow c (ts ++ us) → MayFollow (last_class c ts) us
behind-back c [] us h = h
behind-back c (token d n s ∷ ts) us h = behind-back d ts us h.1

-- behind a run it is the same, whatever its class
pub behind-any : (c d : ℕ) (ts : List Token) → d ≢ 0 → d ≤ 4 → MayFollow c ts → MayFollow d ts
behind-any c d [] r l h = (r, l)
behind-any c d (token e n s ∷ ts) r l h = (λ z. (r, (h.0 z).1), h.1, l)

pub last-paired : (c : ℕ) (cs ns : List ℕ) (k : ℕ) → length cs ≡ length ns → length cs ≡ suc k → last_class c (paired cs ns) ≡ get_or cs k 0
last-paired c [] ns k e h = absurd (omega arith)
last-paired c (x ∷ cs) [] k e h = absurd (omega arith)
last-paired c (x ∷ []) (n ∷ ns) zero e h = refl
last-paired c (x ∷ y ∷ cs) (n ∷ ns) zero e h = absurd (omega arith)
last-paired c (x ∷ cs) (n ∷ ns) (suc k) e h = last-paired x cs ns k (omega arith) (omega arith)

pub paired-length : (cs ns : List ℕ) → length cs ≡ length ns → length (paired cs ns) ≡ length cs
paired-length [] ns e = refl
paired-length (c ∷ cs) [] e = sym e
paired-length (c ∷ cs) (n ∷ ns) e = ap suc (paired-length cs ns (omega arith))
