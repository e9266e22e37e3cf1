-- SN texts of tokens, and what the functions that write or measure a part of one promise each other.
-- Assumes nothing.
use Rattle.std.specs.Prelude.{ℕ, ◌+◌, ◌*◌, ◌^◌, ◌≤◌, ◌<◌, ◌≡◌, false, cond, ◌&&◌, ◌≢◌, List, ◌∷◌, ◌++◌, map, [], ltb, leb, length, drop, get_or}
use Rattle.rules.specs.Bytes.{bytes}
use Rattle.rules.specs.Chart.{Token, token, class, len}
use Rattle.rules.specs.Reduced.{Item, item}
use Rattle.rules.specs.Texts.{word, strung}
use Rattle.rules.specs.Slices.{paired}
use Rattle.text_buffer.specs.MayFollow.{MayFollow}
use Rattle.text_buffer.specs.Buffer.{Ready}
use Rattle.text_buffer.specs.Parts.{PartMeasured, PartRoom, PartWritten, TokensBehind}
use Rattle.text_buffer.specs.Runs.{run_token}
use Rattle.text_buffer.specs.Words.{side}
use Rattle.text_buffer.specs.declared.buffer.Left.{Left}
use Rattle.text_buffer.specs.declared.run.Done.{Done}
use Rattle.text_buffer.specs.declared.run.Run.{Run}
use Rattle.text_buffer.specs.declared.run.Tally.{Tally}
use Rattle.sn_text.specs.declared.sn.RunPlace.{RunPlace}
use Rattle.sn_text.specs.Sn.{break_item, break_tokens, shown, sn_at}

-- items parted by one space
abbrev pub spaced : List Item → List ℕ
spaced [] = []
spaced (x ∷ xs) = word x ++ strung (λ y. bytes " " ++ word y) xs

-- the SN text of some tokens, with the join limit k
abbrev pub sn_of : ℕ → List Token → List ℕ
sn_of k ts = spaced (sn_at k ts)

-- the SN text of an open run t, of the tokens in two slices, and of what follows
abbrev pub sn_part : ℕ → Token → List ℕ → List ℕ → List Token → List ℕ
sn_part k t cs ns more = sn_of k (t ∷ (paired cs ns ++ more))

-- the SN text of an open run t, and of what follows
abbrev pub sn_on : ℕ → Token → List Token → List ℕ
sn_on k t more = sn_of k (t ∷ more)

-- the run that is open behind a part of as many tokens as cs has, when t was open before
pub record OpenRun (t : Token) (cs : List ℕ) (u : Token) : Type 0 where
  pub run : class u ≢ 0
  pub low : class u ≤ 4
  pub small : len u ≤ len t + 4294967296 * length cs

-- a part can be written: an open run, the tokens behind it, a buffer that has room, and room for the text of all this
pub record SnAsked (k : ℕ) (t : Run) (cs ns buf out : List ℕ) (from : Left) : Type 0 where
  pub tokens : TokensBehind t.class cs ns
  pub short : t.length ≤ 2 ^ 62
  pub ready : Ready buf from.left
  pub room : PartRoom (sn_part k (run_token t) cs ns) buf out from

-- it is written, but for the run that is open behind it
abbrev pub SnWritten : ℕ → Run → List ℕ → List ℕ → List ℕ → List ℕ → Left → List ℕ → List ℕ → Done → Type 0
SnWritten k t cs ns old out from buf new r =
    PartWritten (sn_part k (run_token t) cs ns) (sn_on k (run_token r.run)) old out from buf new r.to × OpenRun (run_token t) cs (run_token r.run)

-- a part is measured, but for the run that is open behind it
abbrev pub SnMeasured : ℕ → Run → List ℕ → List ℕ → Tally → Type 0
SnMeasured k t cs ns r =
    PartMeasured (sn_part k (run_token t) cs ns) (sn_on k (run_token r.run)) (47 * length cs) r.length × OpenRun (run_token t) cs (run_token r.run)

-- reduced tokens as items, each with a space behind it
abbrev pub ended : ℕ → List Token → List ℕ
ended k ts = strung (λ y. word y ++ bytes " ") (map (item (break_item k)) ts)

-- a break of g that is shown behind a run, with the join limit k
abbrev pub long_break : ℕ → ℕ → List Token
long_break k g = cond (ltb 1 g && ltb k g) (token 0 g false ∷ []) []

-- the class of a run that joins one of class c over a break of g: 0, which no run has, if there is no break or one longer than the limit k
abbrev pub join_class : ℕ → ℕ → ℕ → ℕ
join_class k c g = cond (ltb 0 g && leb g k) c 0

-- a place with a token, behind one of the class `earlier`
pub record TokenAt (cs ns : List ℕ) (i : ℕ) : Type 0 where
  pub inside : i < length cs
  pub earlier : ℕ
  pub behind : MayFollow earlier (drop i (paired cs ns))

-- from place i: a break of g (0: none), a run of class c and length n, and the tokens from `next` on
pub record RunAt (cs ns : List ℕ) (i g c n next : ℕ) : Type 0 where
  pub rest : drop i (paired cs ns) ≡ break_tokens g ++ (token c n false ∷ drop next (paired cs ns))
  pub run : c ≢ 0
  pub behind : MayFollow c (drop next (paired cs ns))
  pub on : next ≡ i + length (break_tokens g) + 1
  pub within : next ≤ length cs

-- that break and run, as they are found
abbrev pub RunPlaced : List ℕ → List ℕ → ℕ → RunPlace → Type 0
RunPlaced cs ns i r = RunAt cs ns i r.gap (get_or cs r.place 0) (get_or ns r.place 0) (r.place + 1)

-- a run t and a break of g over which no run joins are shown as a run u, and the break if it is a long one
pub record WithBreak (k : ℕ) (t : Token) (g : ℕ) (u : Token) : Type 0 where
  pub shows : shown k (t ∷ break_tokens g) ≡ u ∷ long_break k g
  pub same : class u ≡ class t
  pub run : class u ≢ 0

-- r bytes on each side of the length of a token of class c, whichever the parentheses
pub record SideLength (c r : ℕ) : Type 0 where
  pub left : r ≡ length (side 40 c)
  pub right : r ≡ length (side 41 c)
  pub short : r ≤ 1
