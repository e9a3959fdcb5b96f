-- A save between its two holds of the turn.
use Rattle.std.specs.Prelude.{◌≡◌, ℕ, ◌+◌, ◌<◌, ◌≤◌, List, [], ◌∷◌, ◌++◌, length, Some, None, IsSome}
use mathlib.Core.List.{IsPrefix}
use Rattle.spec_document.specs.Document.{Document}
use Rattle.spec_history.specs.declared.TheConstants.{MAX_ENTRIES}
use Rattle.spec_history.specs.Machine.{Reply, history_full}
use Rattle.spec_history.specs.Kept.{IsLegal}
use Rattle.spec_world.specs.declared.SaveEnd.{SaveEnd}
use Rattle.spec_world.specs.Events.{end_reply}
use Rattle.spec_saves.specs.Names.{version_out}
use Rattle.spec_saves.specs.Shelf.{ShelfIsRight}
use Rattle.xl_ports.specs.State.{ShelfState}
use Rattle.spec_saves.specs.Returns.{Returns}
use Rattle.xl_turn.specs.Sums.{times}
use Rattle.xl_history.specs.History.{document}
use Rattle.xl_history.specs.Editing.{Editing, IsRight, start_of, end_of, out_of}
use Rattle.xl_history.specs.declared.saving.Begun.{Begun}
use Rattle.xl_history.specs.declared.saving.Begun.TheVariants.{Snapshot, Out, Full}
use Rattle.xl_studio.specs.declared.moment.Moment.{Moment}
use Rattle.xl_studio.specs.declared.moment.Moment.TheVariants.{Made}
use Rattle.xl_studio.specs.Moments.{AreAsked, entries_in}
use Rattle.xl_studio.specs.Calling.{Known, HasHeard}
use Rattle.xl_studio.specs.Seats.{history_of}
use Rattle.xl_studio.specs.Saving.{FoundNoRoom}

module _ {K : Type 0} where
  -- ---- what the holds make of the list under the lock

  -- The start is put behind the list, with the shelf, where there is room for two entries. Where the shelf is out, or it is in and
  -- there is no room, the list stays.
  abbrev pub AddsStart : (base : Document) → (entered : List (Moment K)) → (session : ℕ) → Begun K → (left : List (Moment K))
      → Type 0
  AddsStart base entered session (Snapshot v d k) left =
      (left ≡ entered ++ Made (start_of (history_of base entered) session) (Some k) ∷ [])
      × (length (entries_in entered) + 2 ≤ MAX_ENTRIES)
  AddsStart base entered session Out left = left ≡ entered
  AddsStart base entered session Full left =
      (left ≡ entered) × (MAX_ENTRIES < length (entries_in entered) + 2) × (out_of (history_of base entered) ≡ None)

  -- the last version's document is handed out, with a shelf that is right and has a name selected
  abbrev pub Hands : (see : K → ShelfState) → (old : Editing K) → Begun K → Type 0
  Hands see old (Snapshot v d k) = (d ≡ document old.history) × IsRight see old k × IsSome (see k).selected
  Hands see old Out = Unit {0}
  Hands see old Full = Unit {0}

  -- the end is put behind it, and names the version of the save that is out
  pub record AddsEnd (base : Document) (entered : List (Moment K)) (session : ℕ) (how : SaveEnd) (reply : Reply)
      (left : List (Moment K)) : Type 0 where
    pub reply_is : reply ≡ end_reply how (version_out (out_of (history_of base entered)))
    pub left_is : left ≡ entered ++ Made (end_of (history_of base entered) session reply) None ∷ []

  -- ---- what the seat knows between them

  -- The save is out that the seat has started: the start is the last moment that it knows, and among the entries that it made.
  pub record IsUnderWay (base : Document) (session : ℕ) (shelf : K) (known : Known K) : Type 0 where
    pub entered : List (Moment K)
    pub sized : length entered ≡ length (entries_in entered) + 1
    pub legal : IsLegal base (entries_in entered)
    pub front : known.front ≡ entered ++ Made (start_of (history_of base entered) session) (Some shelf) ∷ []
    pub own : 0 < times (length (entries_in entered)) known.made
    pub within : (i : ℕ) → 0 < times i known.made → i + 1 < length known.front

  -- the first hold has started the save
  pub record HasStarted (see : K → ShelfState) (opening : K) (base : Document) (session : ℕ) (d : Document) (shelf : K)
      (old new : Known K) : Type 0 where
    pub out : IsUnderWay base session shelf new
    pub begins : IsPrefix old.front out.entered
    pub made : new.made ≡ old.made ++ length (entries_in out.entered) ∷ []
    pub room : length (entries_in out.entered) + 2 ≤ MAX_ENTRIES
    pub snapshot : d ≡ document (history_of base out.entered)
    pub right : ShelfIsRight (see opening) base (entries_in out.entered) (see shelf)
    pub selected : IsSome (see shelf).selected

  -- after a first hold
  abbrev pub AfterFirst : (see : K → ShelfState) → (opening : K) → (base : Document) → (session : ℕ) → Begun K
      → (old new : Known K) → Type 0
  AfterFirst see opening base session (Snapshot v d k) old new = HasStarted see opening base session d k old new
  AfterFirst see opening base session Out old new = HasHeard old new
  AfterFirst see opening base session Full old new = FoundNoRoom base history_full old new

  -- after the first hold that found the shelf
  abbrev pub AfterWait : (see : K → ShelfState) → (opening : K) → (base : Document) → (session : ℕ) → Begun K
      → (old new : Known K) → Type 0
  AfterWait see opening base session (Snapshot v d k) old new = HasStarted see opening base session d k old new
  AfterWait see opening base session Out old new = ⊥
  AfterWait see opening base session Full old new = FoundNoRoom base history_full old new

  -- the shelf may come back to the save that is under way
  pub record MayComeBack (see : K → ShelfState) (opening : K) (base : Document) (session : ℕ) (how : SaveEnd) (shelf : K)
      (known : Known K) : Type 0 where
    pub handed : K
    pub out : IsUnderWay base session handed known
    pub returns : Returns (see opening) (see handed) base (entries_in known.front) how (see shelf)

  -- The second hold has ended the save that was under way. Since its start there were calls alone.
  pub record HasEnded (base : Document) (session : ℕ) (how : SaveEnd) (reply : Reply) (old new : Known K) : Type 0 where
    pub between : List (Moment K)
    pub calls : AreAsked (entries_in between)
    pub reply_is : reply ≡ end_reply how (version_out (out_of (history_of base old.front)))
    pub front : new.front ≡ old.front ++ between ++ Made (end_of (history_of base old.front) session reply) None ∷ []
    pub made : new.made ≡ old.made ++ (length (entries_in old.front) + length (entries_in between)) ∷ []
