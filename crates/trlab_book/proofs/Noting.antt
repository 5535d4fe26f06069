-- A desk notes the last event of the history.
use denote.Struct.Props.{props}
use Rattle.std.proofs.{Math.Logic.{∥∥₁_elim}, lemmas.Bool.{MatchBool-at_false, false≢true, not-true}}
use Rattle.std.proofs.Common.{ltb-false, ◌≡◌, ◌≤◌, length, arith, Bool, true, false, List, [], ◌∷◌, ◌++◌}
use Rattle.std.proofs.Common.{refl, sym, ap, ◌∙◌, subst, MatchBool}
use Rattle.trlab_sequential_book.specs.declared.event.{Call.Call, Reply.{Reply, TheVariants.Refused}}
use Rattle.trlab_sequential_book.specs.declared.{event.Event.Event, fault.BookFault.TheVariants.HistoryFull}
use Rattle.trlab_sequential_book.specs.declared.book.TheConstants.{MAX_EVENTS}
use Rattle.trlab_sequential_book.specs.Histories.{is_event, is_history_full, Replays, event}
use Rattle.trlab_sequential_book.specs.Machine.{BookState, has_full_history}
use Rattle.trlab_strands.specs.declared.knowledge.Ledger.{Ghosts}
use Rattle.trlab_strands.specs.Tokens.{AddsEvent, CatchesUp, IsSameStrand, strand_events}
use Rattle.trlab_book.specs.declared.{desk.Desk.Desk, kept.Kept.Kept}
use Rattle.trlab_book.specs.Desks.{MakesNoEvent, MakesEvent, MakesCallOn, NotesCall, clock_of, part_count}
use Rattle.trlab_book.specs.Events.{Appends, WasMadeAfter, IsUnchanged, Records, RefusesIfFull}

appended : (old new : Kept) (call : Call) (told : Reply) (one : Bool) → MatchBool one (Appends old call told new) (IsUnchanged old new)
    → MatchBool one (new.history.items ≡ old.history.items ++ event call told ∷ []) (new.history.items ≡ old.history.items)
appended old new call told true made = made.history ∙ ap (λ r. old.history.items ++ event call r ∷ []) (sym made.answered)
appended old new call told false made = made.history

-- a call under the lock comes to the events that the keeper knows
pub has_come : (old new : Kept) (call : Call) (told : Reply) (list : List Event) → Records old call told new → old.history.items ≡ list → WasMadeAfter list call told new
has_come old new call told list made was =
    subst (λ (l : List Event). MatchBool (is_event told) (new.history.items ≡ l ++ event call told ∷ []) (new.history.items ≡ l)) was (appended old new call told (is_event told) made)

-- a full book has had MAX_EVENTS events
history_is_full : (kept : Kept) → has_full_history kept.book ≡ true → MAX_EVENTS ≤ length kept.history.items
history_is_full kept full =
    let most : MAX_EVENTS ≤ kept.book.count = ltb-false kept.book.count MAX_EVENTS (not-true _ full) in
    ∥∥₁_elim kept.replays (hlevel props) (λ (r : Replays kept.history.items kept.book). omega (arith, r.count_is, most))

full_reply : (told : Reply) → is_history_full told ≡ true → told ≡ Refused HistoryFull
full_reply (Refused HistoryFull) is = refl
full_reply told is = absurd (cc is)

-- the reply is that the history is full exactly if it is full
pub full_told : (old : Kept) (told : Reply) → RefusesIfFull old told → is_history_full told ≡ has_full_history old.book
full_told old told full = by (is_history_full told) (has_full_history old.book) refl refl
  where
    by : (says is : Bool) → is_history_full told ≡ says → has_full_history old.book ≡ is → says ≡ is
    by true true says is = refl
    by false false says is = refl
    by true false says is = absurd (false≢true (sym is ∙ full.0 (full_reply told says)))
    by false true says is = absurd (false≢true (sym says ∙ ap is_history_full (full.1 is)))

-- a call that is not an event leaves the book as full as it was
pub full_after : (old new : Kept) (call : Call) (told : Reply) → Records old call told new → RefusesIfFull old told
    → is_event told ≡ false → is_history_full told ≡ has_full_history new.book
full_after old new call told made full none =
    let same : IsUnchanged old new = MatchBool-at_false _ _ none made in
    full_told old told full ∙ ap has_full_history (sym same.book)

module _ {L : Type 0} {ledger : Ghosts L} where
  -- a call that is not an event
  pub is_none : (old : Kept) (told : Reply) (list : List Event) (from to : Desk L ledger) → part_count to ≡ part_count from → old.history.items ≡ list → RefusesIfFull old told
      → MatchBool (is_history_full told) (CatchesUp from.strand (length list) to.strand) (IsSameStrand from.strand to.strand) → MakesNoEvent from told to
  is_none old told list from to parts was full down = by_full (is_history_full told) refl down
    where
      by_full : (whole : Bool) → is_history_full told ≡ whole → MatchBool whole (CatchesUp from.strand (length list) to.strand) (IsSameStrand from.strand to.strand)
          → MatchBool whole ((part_count to ≡ part_count from) × (strand_events to.strand ≡ strand_events from.strand) × (clock_of from ≤ clock_of to) × (MAX_EVENTS ≤ clock_of to)) (IsSameStrand from.strand to.strand)
      by_full true is seen =
          let most = history_is_full old (full.0 (full_reply told is)) in
          let long : length old.history.items ≡ length list = ap length was in
          (parts, seen.1, omega (arith, seen.2, seen.3), omega (arith, seen.3, most, long))
      by_full false is same = same

  -- a call that is made under the lock, and put down at a desk, is one of this desk
  pub is_made : (Holds : BookState → Type 0) (old new : Kept) (call : Call) (told : Reply) (list : List Event) (from to : Desk L ledger)
      → Records old call told new → old.history.items ≡ list → (is_event told ≡ true → Holds old.book) → RefusesIfFull old told
      → NotesCall from list call told to → MakesCallOn Holds from call told to
  is_made Holds old new call told list from to made was holds full noted =
      (noted.0, by_event (is_event told) refl made noted.1)
    where
      by_event : (one : Bool) → is_event told ≡ one → MatchBool one (Appends old call told new) (IsUnchanged old new)
          → MatchBool one (AddsEvent from.strand list (event call told) to.strand) (MatchBool (is_history_full told) (CatchesUp from.strand (length list) to.strand) (IsSameStrand from.strand to.strand))
          → MatchBool one ((book : BookState) × MakesEvent from call told to book × Holds book) (MakesNoEvent from told to)
      by_event true is appends adds = (
        old.book,
        record {
          before = list;
          replays = subst (λ (l : List Event). ∥ Replays l old.book ∥₁) was old.replays;
          reply = appends.answered;
          noted = adds;
        },
        holds is,
      )
      by_event false is unchanged put = is_none old told list from to noted.0 was full put
