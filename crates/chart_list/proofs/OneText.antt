-- The answer of a call that writes one text counts bytes of the lent slice, whether it wrote or refused.
-- Assumes nothing.
use Rattle.std.proofs.Common.{◌≡◌, ℕ, leb, List, [], ◌∷◌, length, ap, arith, leb-true}
use Rattle.std.specs.Counts.{IsPrefixLen}
use Rattle.chart_list.proofs.Counting.{prefix_len_of_le}
use Rattle.number.specs.Questions.{first_no, room_for, OneText}
use Rattle.number.specs.declared.Written.{Written}
use Rattle.number.proofs.Split.{split}

pub counted : {text old new : List ℕ} {r : Written} → length new ≡ length old → OneText (first_no (room_for text old ∷ [])) text old new r
    → IsPrefixLen r.length new
counted {text} {old} {new} same p =
    prefix_len_of_le _ new
    (rw (same, ap (λ (w : Written). w.length) p.answer)
    (split (leb (length text) (length old)) (λ e. rw e (leb-true _ _ e)) (λ e. rw e (omega arith))))
