-- Few tokens: their six texts, three at a time. Nothing here speaks of code.
-- Assumes nothing.
use Rattle.std.proofs.Common.{ℕ, ◌+◌, ◌*◌, ◌≤◌, ◌<◌, ◌≢◌, ◌≡◌, sym, ap, ◌∙◌, Bool, true, false, List, [], ◌∷◌, ◌++◌, length, take, drop, get_or, arith, append_assoc, append-nil, length-drop}
use Rattle.std.proofs.Math.Nat.{zero-add}
use Rattle.number.specs.Place.{Room, Wrote}
use Rattle.number.proofs.Place.{room-first, room_next, wrote, at-start}
use Rattle.rules.specs.Chart.{Token, token}
use Rattle.rules.specs.Texts.{pass_kinds}
use Rattle.rules.specs.Slices.{paired, total}
use Rattle.text_buffer.specs.Parts.{TokensBehind}
use Rattle.text_buffer.specs.Three.{ThreeAsked, ThreeGrown, ThreeRoom}
use Rattle.text_buffer.specs.declared.three.Three.{Three}
use Rattle.text_buffer.proofs.ThreeTexts.{three-bytes, three-room}
use Rattle.sn_text.specs.SnParts.{sn_of}
use Rattle.standard_text.specs.Standard.{standard_of, standard_from}
use Rattle.breakdown.specs.declared.form.Form.TheVariants.{Sn, Standard}
use Rattle.breakdown.proofs.PartByPart.{first-sn, first-standard, first-here, class-here, tokens-behind}
use Rattle.stream_outputs.specs.Pass.{texts_of, Tokened, SixTexts}

module _ {cs ns old : List ℕ} (t : Tokened cs ns old) (e : length cs ≡ length ns) (h : length cs ≢ 0) where
  abbrev ts : List Token
  ts = paired cs ns

  abbrev c : ℕ
  c = get_or cs 0 0

  abbrev n : ℕ
  n = get_or ns 0 0

  -- the tokens after the first
  abbrev rest : List Token
  rest = paired (drop 1 cs) (drop 1 ns)

  few : n + total rest ≤ 1048576
  few = omega (arith, ap total (first-here t.tokens e h), t.few)

  first-few : n < 4294967296
  first-few = omega (arith, few)

  -- ---- each text

  sn-text : (k : ℕ) → sn_of k (token c n false ∷ rest) ≡ sn_of k ts
  sn-text k = ap (sn_of k) (sym (first-here t.tokens e h))

  standard-text : (b : Bool) (k : ℕ) → standard_from b k n false rest ≡ standard_of b k ts
  standard-text b k =
      sym ((first-standard k c n (class-here t.tokens e h) first-few b).text rest)
      ∙ ap (standard_of b k) (sym (first-here t.tokens e h))

  -- ---- three texts, and then the other three

  abbrev sn_texts : List ℕ
  sn_texts = sn_of 0 ts ++ (sn_of 1 ts ++ sn_of 4 ts)

  abbrev standard_texts : List ℕ
  standard_texts = standard_of false 0 ts ++ (standard_of true 0 ts ++ standard_of true 1 ts)

  threes : texts_of pass_kinds ts ≡ sn_texts ++ standard_texts
  threes = simp (append_assoc, append-nil)

  all-room : Room old 0 (sn_texts ++ standard_texts)
  all-room = record { fits = omega (arith, t.room, ap {B = ℕ} length threes) }

  module _ {a₀ a b₀ b d₀ d : List ℕ} {r : Three}
      (g : ThreeGrown a₀ a b₀ b d₀ d (sn_of 0 (token c n false ∷ rest)) (sn_of 1 (token c n false ∷ rest)) (sn_of 4 (token c n false ∷ rest)) r) where
    sn-grown : ThreeGrown a₀ a b₀ b d₀ d (sn_of 0 ts) (sn_of 1 ts) (sn_of 4 ts) r
    sn-grown = rw (sn-text 0, sn-text 1, sn-text 4) at g

    module _ {mid : List ℕ} {next : ℕ} (w : Wrote old mid 0 (take r.first a ++ (take r.second b ++ take r.third d)) next) where
      sn-wrote : Wrote old mid 0 sn_texts next
      sn-wrote = rw (three-bytes sn-grown) at w

      module _ {a₁ a₂ b₁ b₂ d₁ d₂ : List ℕ} {s : Three}
          (q : ThreeGrown a₁ a₂ b₁ b₂ d₁ d₂ (standard_from false 0 n false rest) (standard_from true 0 n false rest) (standard_from true 1 n false rest) s) where
        standard-grown : ThreeGrown a₁ a₂ b₁ b₂ d₁ d₂ (standard_of false 0 ts) (standard_of true 0 ts) (standard_of true 1 ts) s
        standard-grown = rw (standard-text false 0, standard-text true 0, standard-text true 1) at q

        pub standard-room : ThreeRoom mid next a₂ b₂ d₂ s
        standard-room = three-room standard-grown (room_next sn_texts standard_texts sn-wrote all-room)

        pub six-texts : {new : List ℕ} {end : ℕ} → Wrote mid new next (take s.first a₂ ++ (take s.second b₂ ++ take s.third d₂)) end
            → SixTexts ts old new (r.first ∷ r.second ∷ r.third ∷ s.first ∷ s.second ∷ s.third ∷ [])
        six-texts {new} {end} v =
            let x = sn-grown in
            let y = standard-grown in
            let z = wrote sn_texts standard_texts sn-wrote (rw (three-bytes standard-grown) at v) in
            record {
              each = rw (x.first.next, x.second.next, x.third.next, y.first.next, y.second.next, y.third.next) (simp zero-add);
              bytes = (at-start (texts_of pass_kinds ts) old new end t.room (rw threes z)).1;
            }
