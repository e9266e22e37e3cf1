-- Measures within bounds, one by one and stretch by stretch.
-- Assumes nothing.
use Rattle.std.proofs.Common.{◌≡◌, ℕ, ◌+◌, ◌-◌, ◌%◌, ◌^◌, ◌<◌, ◌≤◌, true, ltb, leb, List, ◌++◌, length, get_or, drop, sym, ap, ◌∙◌, arith}
use Rattle.std.proofs.Common.{ltb-false, ltb-true, leb-true, length-drop, length-append}
use Rattle.std.proofs.Math.ListN.{get_or-append}
use Rattle.std.proofs.lemmas.List.{get_or-drop}
use Rattle.number.proofs.Split.{split}
use Rattle.measures.specs.Active.{Stretch}

module _ (m : List ℕ) (lo more : ℕ) where
  pub none : (i : ℕ) → i ≤ length m → Stretch m i lo more i
  none i h = record { onward = omega arith; within = h; each = λ j g l. absurd (omega arith) }

  pub joined : {a b c : ℕ} → Stretch m a lo more b → Stretch m b lo more c → Stretch m a lo more c
  joined {b = b} p q =
      record {
        onward = omega arith;
        within = q.within;
        each = λ j g l. split (ltb j b) (λ e. p.each j g (ltb-true j b e)) (λ e. q.each j (ltb-false j b e) l);
      }

  -- the measure at i, by its difference to lo, wrapped
  pub one : (i : ℕ) → i < length m → get_or m i 0 < 2 ^ 32 → lo + more < 2 ^ 32 → leb ((get_or m i 0 + (4294967296 - lo)) % 4294967296) more ≡ true
      → Stretch m i lo more (i + 1)
  one i h w f t =
      let l = leb-true _ more t in
      let in_bounds : (lo ≤ get_or m i 0) × (get_or m i 0 ≤ lo + more) = omega arith in
      record {
        onward = omega arith;
        within = omega arith;
        each = λ k g u. let q : k ≡ i = omega arith in rw q in_bounds;
      }

  -- a block that stands at i
  pub placed : (i : ℕ) (block rest : List ℕ) → i ≤ length m → drop i m ≡ block ++ rest → Stretch block 0 lo more (length block)
      → Stretch m i lo more (i + length block)
  placed i block rest h e s =
      let long = ap length e in
      let fits : i + length block ≤ length m = omega (arith, length-drop i m, long, length-append block rest) in
      record {
        onward = omega arith;
        within = fits;
        each = λ k g u.
            let j : k - i < length block = omega arith in
            let back : i + (k - i) ≡ k = omega arith in
            let at : get_or block (k - i) 0 ≡ get_or m k 0 =
            sym (get_or-append block rest 0 (k - i) j) ∙ ap (λ (l : List ℕ). get_or l (k - i) 0) (sym e) ∙ get_or-drop i m (k - i) 0 ∙ rw back in
            rw (← at) (s.each (k - i) (omega arith) j);
      }
