-- What the functions of the pass ask and promise.
-- Assumes nothing.
use Rattle.std.specs.Prelude.{ℕ, ◌+◌, ◌*◌, ◌≤◌, ◌≡◌, ◌≢◌, ◌&&◌, List, [], ◌∷◌, ◌++◌, map, leb, length}
use Rattle.number.specs.Questions.{question, first_no, filled}
use Rattle.rules.specs.Chart.{in_domain, classes, Token, tokens}
use Rattle.rules.specs.Texts.{pass_kinds, end_to_end}
use Rattle.rules.specs.declared.Kind.{Kind}
use Rattle.rules.specs.Slices.{paired, total}
use Rattle.text_buffer.specs.Parts.{Tokens}
use Rattle.breakdown.specs.Forms.{form_of, text_of}

-- the number of the pass's first no, or 0, where the lent slices have so many places
abbrev pub no_by_places : List ℕ → ℕ → ℕ → ℕ → ℕ
no_by_places m c n room =
    let due = length (tokens (classes m)) in
    first_no (
    in_domain m
    ∷ question 2 (leb due c && leb due n)
    ∷ question 4 (leb (length (end_to_end pass_kinds m)) room)
    ∷ []
    )

-- the texts of some kinds that tokens make, end to end
abbrev pub texts_of : List Kind → List Token → List ℕ
texts_of [] ts = []
texts_of (k ∷ ks) ts = text_of (form_of k) ts ++ texts_of ks ts

-- tokens of few enough measures, and a text slice as long as the six texts that they make
pub record Tokened (cs ns old : List ℕ) : Type 0 where
  pub tokens : Tokens cs ns
  pub few : total (paired cs ns) ≤ 1048576
  pub room : length (texts_of pass_kinds (paired cs ns)) ≤ length old

-- some tokens, `most` at most
pub record UpTo (most : ℕ) (cs ns old : List ℕ) : Type 0 where
  pub tokened : Tokened cs ns old
  pub some : length cs ≢ 0
  pub few : length cs ≤ most

-- some tokens, and three buffers in which each text has room
pub record FewTokens (cs ns a b d old : List ℕ) : Type 0 where
  pub tokened : Tokened cs ns old
  pub some : length cs ≢ 0
  pub first : 11 * length cs + 52 ≤ length a
  pub second : 11 * length cs + 52 ≤ length b
  pub third : 11 * length cs + 52 ≤ length d

-- the six texts end to end, and the length of each
pub record SixTexts (ts : List Token) (old new lengths : List ℕ) : Type 0 where
  pub each : lengths ≡ map (λ k. length (text_of (form_of k) ts)) pass_kinds
  pub bytes : new ≡ filled old (texts_of pass_kinds ts)
