-- The loops of `runs_into` and `steps_into`, as lists: how `ScanInvariant` starts, what each step does to it, and what it says where the loop ends or stops.
-- Nothing here speaks of code.
-- Assumes nothing.
use Prim.Native.Nat.{ℕ, zero, suc, ◌+◌, ◌-◌, ◌<◌, ◌≤◌}
use mathlib.Core.Path.{◌≡◌, refl, sym, ap, ◌∙◌}
use mathlib.Core.Bool.{false}
use mathlib.Core.Logic.{◌≢◌, ⊎_elim}
use mathlib.Core.List.{List, [], ◌∷◌, ◌++◌, map}
use native.Mathlib.Nat.{add-zero}
use native.Mathlib.Numerals.{add-one}
use native.Mathlib.Omega.{arith}
use lib.ListN.{length, take, drop, get_or, set, length-append, length-drop, length-map, drop_of_length-le}
use lib.Seq.{drop-cons, set-append_seam, append_snoc, take_at}
use Rattle.rules.specs.Chart.{Token, token, class, len, class_of, classes, runs_from, runs}
use Rattle.rules.proofs.Shape.{class-below}
use Rattle.rules.proofs.Steps.{run-longer, run-ended, map-drop}
use Rattle.rules.specs.Slices.{paired, total}
use Rattle.number.specs.Questions.{filled}
use Rattle.scan.specs.Scan.{OfClass, RoomForRuns, ScanInvariant, FirstRuns}
use Rattle.measures.proofs.Part.{class-of-place}
use Rattle.counts.proofs.TokenSums.{paired-runs}
use Rattle.rules.proofs.Cost.{total-append}
use Rattle.scan.proofs.Front.{some-run, after, paired-front}
use Rattle.scan.proofs.Written.{all_first}

-- one more element written, and the last one written anew
push : (old xs : List ℕ) (v : ℕ) → length xs < length old → set (filled old xs) (length xs) v ≡ filled old (xs ++ (v ∷ []))
push old xs v h = rw (drop-cons old (length xs) 0 h, set-append_seam, append_snoc, length-append, add-one)

anew : (old xs : List ℕ) (v w : ℕ) → set (filled old (xs ++ (v ∷ []))) (length xs) w ≡ filled old (xs ++ (w ∷ []))
anew old xs v w = simp (length-append, append_snoc) (set-append_seam xs v (drop (length xs + 1) old) w)

map_snoc : (f : Token → ℕ) (ts : List Token) (t : Token) → map f (ts ++ (t ∷ [])) ≡ map f ts ++ (f t ∷ [])
map_snoc f [] t = refl
map_snoc f (x ∷ ts) t = ap {B = List ℕ} (λ r. f x ∷ r) (map_snoc f ts t)

-- the class at i, and those after it
pub next : (m : List ℕ) (i : ℕ) → i < length m → drop i (classes m) ≡ class_of (get_or m i 0) ∷ drop (suc i) (classes m)
next m i h = drop-cons (classes m) i 0 (rw length-map h) ∙ rw class-of-place

-- q measures of the pending class
longer : (m : List ℕ) (c q n i : ℕ) → i + q ≤ length m → ((j : ℕ) → i ≤ j → j < i + q → class_of (get_or m j 0) ≡ c)
    → runs_from c n (drop i (classes m)) ≡ runs_from c (n + q) (drop (i + q) (classes m))
longer m c zero n i h same = simp add-zero
longer m c (suc q) n i h same =
    rw (next m i (omega arith), run-longer c n (class_of (get_or m i 0)) (drop (suc i) (classes m)) (sym (same i (omega arith) (omega arith))))
    (longer m c q (suc n) (suc i) (omega arith) (λ j g l. same j (omega arith) (omega arith))
    ∙ (let e : suc n + q ≡ n + suc q = omega arith in let f : suc i + q ≡ i + suc q = omega arith in rw (e, f)))

-- a place, where there is room
place : (m : List ℕ) (most : ℕ) (s : List ℕ) {k : ℕ} → RoomForRuns m most s → k < length (runs (classes m)) → k < most + 17 → k < length s
place m most s r h l = ⊎_elim (λ a. omega arith) (λ a. omega arith) r

module _ {m cs₀ ns₀ cs ns : List ℕ} {most c n k i : ℕ} (g : ScanInvariant m cs₀ ns₀ cs ns most c n k i) where
  -- there is a place for the pending token
  placed : (s : List ℕ) → RoomForRuns m most s → k < length s
  placed s r =
      place m most s r
      (rw (← g.whole, length-append, ← g.written) (omega (arith, some-run c n (drop i (classes m)))))
      g.low

  -- the slices are as long as they were
  long_filled : (f : Token → ℕ) (old : List ℕ) (v : ℕ) → RoomForRuns m most old → length (filled old (map f g.done ++ (v ∷ []))) ≡ length old
  long_filled f old v r = let p = placed old r in simp (length-append, length-drop, length-map) (omega arith)

  pub long_c : length cs ≡ length cs₀
  long_c = ap length g.in_classes ∙ long_filled class cs₀ c g.room_c

  pub long_n : length ns ≡ length ns₀
  long_n = ap length g.in_lengths ∙ long_filled len ns₀ n g.room_n

  pub places : (k < length cs) × (k < length ns)
  places = let p = placed cs₀ g.room_c in let q = placed ns₀ g.room_n in let a = long_c in let b = long_n in (omega arith, omega arith)

  -- all measures are read, and the pending token is the last
  pub finished : length m ≤ i → FirstRuns m most cs₀ cs ns₀ ns (record { tokens = k + 1; next = i })
  finished h =
      let q : i ≡ length m = omega arith in
      let w : g.done ++ (token c n false ∷ []) ≡ runs (classes m) = rw (drop_of_length-le (classes m) {i = i} (simp length-map h)) at g.whole in
      rw q (all_first m most (record {
        number = rw (← w) (simp length-append (omega arith));
        in_classes = rw (← w, map_snoc) g.in_classes;
        in_lengths = rw (← w, map_snoc) g.in_lengths;
      }))

  -- enough are written, and the pending token is left out
  module _ (h : i < length m) (e : most ≤ k) where
    front : (f : Token → ℕ) (old new : List ℕ) (v : ℕ) → new ≡ filled old (map f g.done ++ (v ∷ [])) → take k new ≡ map f g.done
    front f old new v e = rw (e, append_snoc) (take_at (map f g.done) _ k (length-map g.done f ∙ sym g.written))

    plain : paired (map class g.done) (map len g.done) ≡ g.done
    plain = paired-front g.done (runs_from c n (drop i (classes m))) (rw g.whole (paired-runs (classes m)))

    pub stopped : FirstRuns m most cs₀ cs ns₀ ns (record { tokens = k; next = i - n })
    stopped =
        let q : i - n ≡ total g.done = omega (arith, g.sum) in
        let p = places in
        record {
          rest =
              rw (front class cs₀ cs c g.in_classes, front len ns₀ ns n g.in_lengths, plain, q, map-drop, after (classes m) g.done _ (sym g.whole))
              (sym g.whole);
          within = omega arith;
          fits = omega arith;
          many = λ _. e;
          all = λ l. absurd (omega (arith, g.few));
        }

  -- the pending token, written anew
  again : (f : Token → ℕ) (old new : List ℕ) (v w : ℕ) → new ≡ filled old (map f g.done ++ (v ∷ [])) → set new k w ≡ filled old (map f g.done ++ (w ∷ []))
  again f old new v w e = rw (e, g.written, ← (length-map g.done f)) (anew old (map f g.done) v w)

  -- on to place j, over measures of the pending class
  pub skipped : {j : ℕ} → OfClass m i c j → ScanInvariant m cs₀ ns₀ cs (set ns k (n + (j - i))) most c (n + (j - i)) k j
  skipped {j} s =
      let e : i + (j - i) ≡ j = omega arith in
      record {
        done = g.done;
        whole =
            ap {B = List Token} (λ ts. g.done ++ ts) (rw e at (sym (longer m c (j - i) n i (omega arith) (λ x h l. s.each x h (omega arith))))) ∙ g.whole;
        in_classes = g.in_classes;
        in_lengths = again len ns₀ ns n (n + (j - i)) g.in_lengths;
        written = g.written;
        small = g.small;
        few = omega arith;
        sum = omega (arith, g.sum);
        within = s.within;
        low = g.low;
        room_c = g.room_c;
        room_n = g.room_n;
      }

  -- one more measure
  module _ (h : i < length m) where
    abbrev d : ℕ
    d = class_of (get_or m i 0)

    -- one of the pending class
    pub same : class_of (get_or m i 0) ≡ c → ScanInvariant m cs₀ ns₀ (set cs k d) (set ns k (n + 1)) most d (n + 1) k (i + 1)
    same e =
        record {
          done = g.done;
          whole = rw e (simp add-one (rw (next m i h, run-longer c n d (drop (suc i) (classes m)) (sym e)) at g.whole));
          in_classes = again class cs₀ cs c d g.in_classes;
          in_lengths = again len ns₀ ns n (n + 1) g.in_lengths;
          written = g.written;
          small = class-below (get_or m i 0);
          few = omega arith;
          sum = omega (arith, g.sum);
          within = omega arith;
          low = g.low;
          room_c = g.room_c;
          room_n = g.room_n;
        }

    -- one of another class, which ends the pending run
    module _ (e : class_of (get_or m i 0) ≢ c) (l : k + 1 < most + 17) where
      other-whole : (g.done ++ (token c n false ∷ [])) ++ runs_from d 1 (drop (suc i) (classes m)) ≡ runs (classes m)
      other-whole = rw append_snoc (rw (next m i h, run-ended c n d (drop (suc i) (classes m)) (λ q. e (sym q))) at g.whole)

      other-placed : (s : List ℕ) → RoomForRuns m most s → k + 1 < length s
      other-placed s r =
          place m most s r
          (rw (← other-whole, length-append, length-append, ← g.written) (omega (arith, some-run d 1 (drop (suc i) (classes m)))))
          l

      beyond : (f : Token → ℕ) (old new : List ℕ) (v : ℕ) → k + 1 < length old
          → new ≡ filled old (map f g.done ++ (f (token c n false) ∷ []))
          → set new (k + 1) v ≡ filled old (map f (g.done ++ (token c n false ∷ [])) ++ (v ∷ []))
      beyond f old new v r e =
          let xs = map f g.done ++ (f (token c n false) ∷ []) in
          let l : length xs ≡ k + 1 = simp (length-append, length-map) (omega arith) in
          rw (e, map_snoc, ← l) (push old xs v (rw l r))

      pub other : ScanInvariant m cs₀ ns₀ (set cs (k + 1) d) (set ns (k + 1) 1) most d 1 (k + 1) (i + 1)
      other =
          record {
            done = g.done ++ (token c n false ∷ []);
            whole = simp add-one other-whole;
            in_classes = beyond class cs₀ cs d (other-placed cs₀ g.room_c) g.in_classes;
            in_lengths = beyond len ns₀ ns 1 (other-placed ns₀ g.room_n) g.in_lengths;
            written = simp length-append (omega arith);
            small = class-below (get_or m i 0);
            few = omega arith;
            sum = rw total-append (omega (arith, g.sum));
            within = omega arith;
            low = l;
            room_c = g.room_c;
            room_n = g.room_n;
          }

-- the first measure
module _ (m cs ns : List ℕ) (most : ℕ) (h : 0 < length m) where
  first : runs_from (class_of (get_or m 0 0)) 1 (drop 1 (classes m)) ≡ runs (classes m)
  first = sym (ap runs (next m 0 h))

  pub room : (s : List ℕ) → RoomForRuns m most s → 0 < length s
  room s r = place m most s r (rw (← first) (some-run (class_of (get_or m 0 0)) 1 (drop 1 (classes m)))) (omega arith)

  pub starts : RoomForRuns m most cs → RoomForRuns m most ns
      → ScanInvariant m cs ns (set cs 0 (class_of (get_or m 0 0))) (set ns 0 1) most (class_of (get_or m 0 0)) 1 0 1
  starts room_c room_n =
      record {
        done = [];
        whole = first;
        in_classes = push cs [] (class_of (get_or m 0 0)) (room cs room_c);
        in_lengths = push ns [] 1 (room ns room_n);
        written = refl;
        small = class-below (get_or m 0 0);
        few = omega arith;
        sum = refl;
        within = h;
        low = omega arith;
        room_c = room_c;
        room_n = room_n;
      }
