-- The possible causes if an output was not written completely.
use Rattle.std.proofs.{Common.{◌≡◌, ◌↔◌, Bool, true, false, sym, ◌∙◌}, lemmas.Bool.{false≢true}}
use Rattle.trlab_campaign.specs.declared.end.Failure.{Failure, TheVariants.{Memory, Device}}

memory≢device : Memory ≡ Device → ⊥
memory≢device e = cc e

-- an allocation failed, and the writer works
pub by_memory : (fault : Failure) (failed : Bool) → fault ≡ Memory → failed ≡ false → (fault ≡ Device) ↔ (failed ≡ true)
by_memory fault failed is works = (λ e. absurd (memory≢device (sym is ∙ e)), λ fails. absurd (false≢true (sym works ∙ fails)))
