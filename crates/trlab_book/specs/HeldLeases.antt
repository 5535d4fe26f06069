-- The leases themselves in the calls of a runner: each runs only steps that the book ordered.
use Rattle.std.specs.Prelude.{◌≡◌, ◌↔◌, Bool, true, IsTrue, List, [], ◌∷◌}
use Rattle.trlab_sequential_book.specs.declared.event.{Event.Event, Call.TheVariants.Lease}
use Rattle.trlab_sequential_book.specs.declared.event.Reply.TheVariants.{NoLease}
use Rattle.trlab_sequential_book.specs.{Leases.LeaseState, Machine.BookState, Comparison.RunsRoadOfItsJob}
use Rattle.trlab_sequential_book.specs.Histories.{Offers, RanStep, Replays, WentOut, event, is_event}
use Rattle.trlab_strands.specs.declared.knowledge.Noted.{Noted}

-- the state of a runner after its calls so far: no lease, but it goes on (`Idle`); this lease (`Running`); or no
-- lease, and it has ended (`Over`)
pub data RunnerState : Type 0 where
  Idle : RunnerState
  Running : (lease : LeaseState) → RunnerState
  Over : RunnerState

-- in this event the lease is offered to the book, in an order of its next step or to give it back, with the
-- correct verdict on it
pub record OffersLease (book : BookState) (made : Event) (lease : LeaseState) : Type 0 where
  pub same : Bool
  pub offers : Offers made.call lease same
  pub verdict : IsTrue same ↔ RunsRoadOfItsJob book.jobs lease
  pub is_one : is_event made.reply ≡ true

-- a runner that is `old` makes this call on the book and then is `new`: a lease goes out to it; it has ended,
-- because no job is free; its lease runs the step that the book has just ordered; or it offers its lease to
-- the book, and no longer has it
abbrev pub CallsAs : RunnerState → BookState → Event → RunnerState → Type 0
CallsAs Idle book made (Running lease) = WentOut book made lease
CallsAs Idle book made Over = made ≡ event Lease NoLease
CallsAs (Running old) book made (Running new) = RanStep book made old new
CallsAs (Running old) book made Idle = OffersLease book made old
CallsAs _ book made _ = ⊥

-- a runner that is `old` makes these calls and then is `new`; each call is on the book to which the events
-- before it replay
abbrev pub RunsLeases : RunnerState → List (Noted Event) → RunnerState → Type 0
RunsLeases old [] new = new ≡ old
RunsLeases old (made ∷ events) new =
    (next : RunnerState) × (book : BookState) × ∥ Replays made.before book ∥₁
    × CallsAs old book made.event next × RunsLeases next events new
