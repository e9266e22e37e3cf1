-- How the promise of format_run_symbol follows for a symbol that is written. Nothing here speaks of code.
-- Assumes nothing.
use Prim.Native.Nat.{ℕ, ◌≤◌}
use mathlib.Core.Path.{◌≡◌, refl}
use mathlib.Core.Bool.{Bool, true, false}
use mathlib.Core.List.{List}
use lib.ListN.{length}
use denote.Enum.Bare.{sameb}
use borrow.Author.Tests.{le-leb}
use Rattle.std.proofs.lemmas.Bool.{true≢false}
use Rattle.number.specs.Place.{Wrote}
use Rattle.number.specs.Questions.{question}
use Rattle.number.proofs.Place.{one-text}
use Rattle.rules.specs.Chart.{class_number}
use Rattle.rules.specs.Calls.{run_symbol}
use Rattle.rules.specs.contracts.RunDensity.{the_type}
use Rattle.rules.specs.declared.RunDensity.{RunDensity}
use Rattle.rules.specs.declared.RunDensity.TheVariants.{Run32, Run24, Run20, Run16, Break}
use Rattle.run_symbol.specs.Promises.{stream_class, RunSymbol}

some-run : (c : RunDensity) → sameb the_type c Break ≡ false → stream_class c ≡ question 5 true
some-run Break e = absurd (true≢false e)
some-run Run16 e = refl
some-run Run20 e = refl
some-run Run24 e = refl
some-run Run32 e = refl

pub written : (c : RunDensity) (n : ℕ) (s : Bool) {old new : List ℕ} {r : ℕ} → sameb the_type c Break ≡ false
    → length (run_symbol (class_number c) n s) ≤ length old → Wrote old new 0 (run_symbol (class_number c) n s) r
    → RunSymbol c n s old new (record { refused = 0; length = r })
written c n s {old} e h w = rw (some-run c e, le-leb _ _ h) (one-text (run_symbol (class_number c) n s) old _ _ h w)
