-- Document 01's texts, as bytes: what shows each reduced list.
-- Assumes nothing.
use Rattle.std.specs.Prelude.{ℕ, zero, suc, Bool, true, false, cond, List, [], ◌∷◌, ◌++◌, map, eqb, length}
use Rattle.number.specs.Digits.{digits}
use Rattle.rules.specs.Bytes.{bytes}
use Rattle.rules.specs.Chart.{classes}
use Rattle.rules.specs.Reduced.{Sign, dash, slash, bar, Item, run, gap, sign, sum, Kind, sn, standard, reduced}
use Rattle.rules.specs.declared.BreakdownMode.TheVariants as Mode
use Rattle.rules.specs.declared.StreamBreakdownLevel.TheVariants as Level

-- what stands on both sides of a run's length, by its class
abbrev pub mark : ℕ → List ℕ
mark zero = []
mark (suc zero) = []
mark (suc (suc zero)) = bytes "~"
mark (suc (suc (suc zero))) = bytes "\\"
mark (suc (suc (suc (suc c)))) = bytes "="

abbrev pub star : Bool → List ℕ
star true = bytes "*"
star false = []

-- a sign of an SN text, and of a standard text
abbrev pub sn_sign : Sign → List ℕ
sn_sign dash = bytes "-"
sn_sign slash = bytes "/"
sn_sign bar = bytes "|"

abbrev pub standard_sign : Sign → List ℕ
standard_sign dash = bytes "-"
standard_sign slash = bytes "/"
standard_sign bar = bytes " | "

-- an item of an SN text: 12, ~12~*, (12), /
abbrev pub word : Item → List ℕ
word (run c n s) = mark c ++ (digits n ++ (mark c ++ star s))
word (gap n) = bytes "(" ++ (digits n ++ bytes ")")
word (sign s) = sn_sign s
word (sum n) = []

-- an item of a standard text: 12*, " (12) " or "-", a sign, 12 Total
abbrev pub part : Item → List ℕ
part (run c n s) = digits n ++ star s
part (gap n) = cond (eqb n 1) (bytes "-") (bytes " " ++ (word (gap n) ++ bytes " "))
part (sign s) = standard_sign s
part (sum n) = digits n ++ bytes " Total"

-- what `f` makes of each item, end to end
abbrev pub strung : (Item → List ℕ) → List Item → List ℕ
strung f [] = []
strung f (i ∷ is) = f i ++ strung f is

-- SN: items parted by one space, nothing if there are none. Standard: "No Streams!" if there are none
unfoldable pub render : Kind → List Item → List ℕ
render (sn m) [] = []
render (sn m) (i ∷ is) = word i ++ strung (λ j. bytes " " ++ word j) is
render (standard l) [] = bytes "No Streams!"
render (standard l) (i ∷ is) = strung part (i ∷ is)

-- The text of a kind, of the chart with the densities m
unfoldable pub text : Kind → List ℕ → List ℕ
text k m = render k (reduced k (classes m))

-- SN texts, standard texts, and the pass: the texts that a call writes end to end
abbrev pub sn_kinds : List Kind
sn_kinds = sn Mode.Detailed ∷ sn Mode.Partial ∷ sn Mode.Simplified ∷ []

abbrev pub standard_kinds : List Kind
standard_kinds = standard Level.Detailed ∷ standard Level.Partial ∷ standard Level.Simple ∷ []

abbrev pub pass_kinds : List Kind
pass_kinds = sn_kinds ++ standard_kinds

abbrev pub end_to_end : List Kind → List ℕ → List ℕ
end_to_end [] m = []
end_to_end (k ∷ ks) m = text k m ++ end_to_end ks m

-- the length of each
abbrev pub lengths_of : List Kind → List ℕ → List ℕ
lengths_of ks m = map (λ k. length (text k m)) ks
