-- A text that is written piece by piece.
use Rattle.std.proofs.Common.{◌≡◌, ℕ, List, [], ◌++◌, length, take, drop, refl, append_assoc, append-nil, sym}
use Rattle.std.proofs.{Common.{◌∙◌, ap, subst, take-append-drop}, Math.Seq.take-append_seam}
use Rattle.trlab_campaign.specs.Writers.{HasWritten, AddsPrefix, SinkBytes}
use Rattle.trlab_campaign.proofs.WrittenBytes.{adds_none, adds_more}

-- a part of a whole text was written, and the rest is owed
pub record Owes (whole rest : List ℕ) (old now : SinkBytes) : Type 0 where
  pub done : List ℕ
  pub parts : whole ≡ done ++ rest
  pub wrote : HasWritten old now done

-- before the first piece
pub owes_all : (whole : List ℕ) (old : SinkBytes) → Owes whole whole old old
owes_all whole old = record { done = []; parts = refl; wrote = adds_none old }

-- after a piece
pub owes_less : (whole next rest : List ℕ) (old a b : SinkBytes) → Owes whole (next ++ rest) old a → HasWritten a b next → Owes whole rest old b
owes_less whole next rest old a b owes wrote = record {
  done = owes.done ++ next;
  parts = owes.parts ∙ sym (append_assoc owes.done next rest);
  wrote = adds_more old a b owes.done next owes.wrote wrote;
}

-- if writing stops, a prefix was written
owes_stop : (whole rest : List ℕ) (old a : SinkBytes) → Owes whole rest old a → AddsPrefix old a whole
owes_stop whole rest old a owes =
    record { count = length owes.done; prefix = subst (λ (t : List ℕ). HasWritten old a t) (sym (ap (take (length owes.done)) owes.parts ∙ take-append_seam owes.done rest)) owes.wrote }

-- if writing stops within a piece
pub owes_prefix : (whole next rest : List ℕ) (old a b : SinkBytes) → Owes whole (next ++ rest) old a → AddsPrefix a b next → AddsPrefix old b whole
owes_prefix whole next rest old a b owes prefix =
    owes_stop whole (drop prefix.count next ++ rest) old b (record {
      done = owes.done ++ take prefix.count next;
      parts = owes.parts ∙ ap (λ t. owes.done ++ t) (ap (λ t. t ++ rest) (sym (take-append-drop prefix.count next)) ∙ append_assoc (take prefix.count next) (drop prefix.count next) rest) ∙ sym (append_assoc owes.done (take prefix.count next) (drop prefix.count next ++ rest));
      wrote = adds_more old a b owes.done (take prefix.count next) owes.wrote prefix.prefix;
    })

-- if nothing is owed, the whole text was written
pub owes_none : (whole : List ℕ) (old a : SinkBytes) → Owes whole [] old a → HasWritten old a whole
owes_none whole old a owes = subst (λ (t : List ℕ). HasWritten old a t) (sym (owes.parts ∙ append-nil owes.done)) owes.wrote
