-- The effect of a call on a book with its history. `reply` is always the reply to the caller.
use Rattle.std.specs.Prelude.{◌≡◌, ◌↔◌, true, List, ◌++◌, ◌∷◌, [], MatchBool}
use Rattle.trlab_sequential_book.specs.declared.{fault.BookFault.TheVariants.HistoryFull, event.Call.Call}
use Rattle.trlab_sequential_book.specs.declared.event.{Event.Event, Reply.{Reply, TheVariants.Refused}}
use Rattle.trlab_sequential_book.specs.Machine.{after, has_full_history, reply_of}
use Rattle.trlab_sequential_book.specs.Histories.{is_event, event}
use Rattle.trlab_book.specs.declared.kept.Kept.{Kept}

-- the call is appended to the history as one event, with the reply of the machine, which is also the reply to
-- the caller; and the book is the machine's after the call
pub record Appends (old : Kept) (call : Call) (reply : Reply) (new : Kept) : Type 0 where
  pub history : new.history.items ≡ old.history.items ++ event call (reply_of old.book call) ∷ []
  pub book : new.book ≡ after old.book call
  pub answered : reply ≡ reply_of old.book call

-- the book and its history are as before
pub record IsUnchanged (old new : Kept) : Type 0 where
  pub history : new.history.items ≡ old.history.items
  pub book : new.book ≡ old.book

-- a call with this reply is appended to the history if it is an event; any other call changes nothing
abbrev pub Records : Kept → Call → Reply → Kept → Type 0
Records old call reply new = MatchBool (is_event reply) (Appends old call reply new) (IsUnchanged old new)

-- a call with this reply was made after the events `before`: if it is an event, the history is now `before`
-- and then this event; otherwise the history is still `before`
abbrev pub WasMadeAfter : List Event → Call → Reply → Kept → Type 0
WasMadeAfter before call reply kept = MatchBool (is_event reply)
    (kept.history.items ≡ before ++ event call reply ∷ []) (kept.history.items ≡ before)

-- a call is refused as `HistoryFull` if and only if the history was full before it
abbrev pub RefusesIfFull : Kept → Reply → Type 0
RefusesIfFull old reply = (reply ≡ Refused HistoryFull) ↔ (has_full_history old.book ≡ true)
