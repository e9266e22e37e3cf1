-- Document 01's reduced lists: what each of the seven texts shows, item by item.
-- Assumes nothing.
use Rattle.std.specs.Prelude.{ℕ, zero, suc, ◌+◌, Bool, true, cond, ◌&&◌, List, [], ◌∷◌, map, leb, eqb}
use Rattle.rules.specs.Chart.{active, Token, token, class, len, runs, tokens, flat, streams}
-- The seven texts: three SN modes and four standard levels
pub use Rattle.rules.specs.declared.Kind.{Kind}
pub use Rattle.rules.specs.declared.Kind.TheVariants.{Sn as sn, Standard as standard}
use Rattle.rules.specs.declared.BreakdownMode.{BreakdownMode}
use Rattle.rules.specs.declared.BreakdownMode.TheVariants as Mode
use Rattle.rules.specs.declared.StreamBreakdownLevel.TheVariants as Level

pub data Sign : Type 0 where
  dash slash bar : Sign

-- An item: a run by class, length and star (a piece has class 1), a break or gap by length, a sign, Total by its number
pub data Item : Type 0 where
  run : ℕ → ℕ → Bool → Item
  gap : ℕ → Item
  sign : Sign → Item
  sum : ℕ → Item

-- a token as an item, a break of n as `g n`
abbrev pub item : (ℕ → Item) → Token → Item
item g (token zero n s) = g n
item g (token (suc c) n s) = run (suc c) n s

-- the sign of a break of n: up to 4 "-", up to `most` "/", more "|"
abbrev pub sign_of : ℕ → ℕ → Item
sign_of most n = sign (cond (leb n 4) dash (cond (leb n most) slash bar))

-- t and v are of one class, and u between them is a break of at most k
abbrev pub joins : ℕ → Token → Token → Token → Bool
joins k t u v = eqb (class u) 0 && leb (len u) k && eqb (class t) (class v)

-- a token t and what follows it: runs of one class over a break of at most k join, lengths and gap added, starred; chains join on
abbrev pub join_from : ℕ → Token → List Token → List Token
join_from k t [] = t ∷ []
join_from k t (u ∷ []) = t ∷ u ∷ []
join_from k t (u ∷ v ∷ ts) =
    let joined = join_from k (token (class t) (len t + len u + len v) true) ts in
    let apart = t ∷ join_from k u (v ∷ ts) in
    cond (joins k t u v) joined apart

abbrev pub join : ℕ → List Token → List Token
join k [] = []
join k (t ∷ ts) = join_from k t ts

-- a break of 2 to k
abbrev pub short : ℕ → Token → Bool
short k u = eqb (class u) 0 && leb 2 (len u) && leb (len u) k

-- a break of 2 to k is added to the earlier run, which is starred (after `join k` it stands before a different class)
abbrev pub absorb : ℕ → List Token → List Token
absorb k [] = []
absorb k (t ∷ []) = t ∷ []
absorb k (t ∷ u ∷ ts) =
    let added = token (class t) (len t + len u) true ∷ absorb k ts in
    let apart = t ∷ absorb k (u ∷ ts) in
    cond (short k u) added apart

-- breaks of 1 are dropped
abbrev pub drop_ones : List Token → List Token
drop_ones [] = []
drop_ones (t ∷ ts) = cond (eqb (class t) 0 && eqb (len t) 1) (drop_ones ts) (t ∷ drop_ones ts)

-- SN texts, from the tokens
abbrev pub sn_items : BreakdownMode → List Token → List Item
sn_items Mode.Detailed ts = map (item gap) (drop_ones ts)
sn_items Mode.Partial ts = map (item (sign_of 32)) (drop_ones (join 1 ts))
sn_items Mode.Simplified ts = map (item (sign_of 32)) (drop_ones (absorb 4 (join 4 ts)))

-- Pieces: the active part cut into longest stretches of stream measures (class 1) and gaps (class 0)
unfoldable pub pieces : List ℕ → List Token
pieces cs = runs (map flat (active cs))

-- Total, where there is something to count
abbrev pub sum_of : ℕ → List Item
sum_of zero = []
sum_of (suc n) = sum (suc n) ∷ []

-- The reduced list of each text, from the classes of a chart
unfoldable pub reduced : Kind → List ℕ → List Item
reduced (sn m) cs = sn_items m (tokens cs)
reduced (standard Level.Detailed) cs = map (item gap) (pieces cs)
reduced (standard Level.Partial) cs = map (item (sign_of 31)) (pieces cs)
reduced (standard Level.Simple) cs = map (item (sign_of 31)) (join 1 (pieces cs))
reduced (standard Level.Total) cs = sum_of (streams cs)
