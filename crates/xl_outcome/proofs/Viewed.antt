-- What a script that is viewed comes to.
use Rattle.std.proofs.Common.{◌≡◌, inl, inr, ◌⊎◌, ℕ, ◌+◌, ◌≤◌, false, List, [], ◌++◌, ◌∙◌, length, ap, sym, subst, refl}
use Rattle.std.proofs.Common.{arith, length-append, append-nil}
use Rattle.std.specs.Prelude.{Vec, Option, Some, None, IfSome, IfOk, Result, Ok, Err, String, string_bytes, nat_le}
use Rattle.std.specs.declared.alloc.AllocError.{AllocError}
use Rattle.std.specs.declared.alloc.Global.{Global}
use Rattle.std.proofs.lemmas.Bool.Decides.{nat_tests}
use Rattle.spec_command.specs.Arguments.{view}
use Rattle.spec_document.specs.Document.{Document}
use Rattle.spec_document.specs.Limits.{IsDocument}
use Rattle.spec_filters.specs.declared.FilterState.{FilterState}
use Rattle.spec_script.specs.declared.TheConstants.{MAX_SCRIPT_BYTES}
use Rattle.spec_script.specs.Script.{Line, list_at, line_of_byte}
use Rattle.spec_view.specs.Script.{view_script}
use Rattle.spec_view.specs.Text.{Views}
use Rattle.xl_ports.specs.Shelf.{Content}
use Rattle.xl_ports.specs.Source.{led_by, IsEnded}
use Rattle.xl_ports.specs.State.{ShelfState}
use Rattle.xl_ports.specs.Disk.{read_at}
use Rattle.xl_script.specs.Lines.{lists_of}
use Rattle.xl_script.specs.declared.script.Line as code
use Rattle.xl_filters.specs.Chests.{states_of}
use Rattle.xl_outcome.specs.Files.{HoldsDocument}
use Rattle.xl_outcome.specs.Outcome.{Given, first_filters, ComesTo, IsUntouched, ReadsToEnd}
use Rattle.xl_outcome.specs.Parts.{Loads, ReadsViewed, StopsView, WritesViewed}
use Rattle.xl_outcome.specs.Viewing.{IsViewed}
use Rattle.xl_outcome.specs.declared.stopped.Stopped.{Stopped}
use Rattle.xl_outcome.specs.declared.stopped.Stopped.TheVariants.{SourceFault, BadHead, BadLine, ShelfFault, Refused}
use Rattle.xl_outcome.specs.declared.stopped.Stopped.TheVariants.{NotFlattened, SaveFault, Rejected, SinkFault, Memory}
use Rattle.xl_outcome.proofs.Scripts.{same_line}
use Rattle.xl_outcome.proofs.Taken.{untouched}

-- ---- what a viewing comes to

-- what was known when the script was taken
pub record IsViewOpened (given : Given) (before mid : ShelfState) (name : List ℕ) (d : Document) (lists : List (List code.Line))
    : Type 0 where
  pub holds : IfSome (read_at before.disk name) (λ c. HoldsDocument c d)
  pub within : IsDocument d
  pub read : ReadsViewed given (Ok lists)
  pub untouched : IsUntouched before mid

module _ (given : Given) {before mid : ShelfState} {name : List ℕ} {d : Document} {lists : List (List code.Line)}
    (then : IsViewOpened given before mid name d lists) (after : ShelfState) (same : after ≡ mid)
    (cols rows : ℕ) where
  is_viewed : (out : List ℕ) → Views out d (list_at (lists_of lists) 0) (first_filters given) cols rows
      → IsViewed given.left (first_filters given) (read_at before.disk name) cols rows out
  is_viewed out text =
      record { document = d; lines = list_at (lists_of lists) 0; held = then.holds; within = then.within; read = then.read; text = text }

  left_alone : IsUntouched before after
  left_alone = subst (IsUntouched before) (sym same) then.untouched

  -- what is written, and the shelf
  pub viewed_comes : {K : Type 0} (held : K → Option (List ℕ)) (faults : K → ℕ) (old new : K) (text : Result (String Global) AllocError)
      (result : Result (Unit {0}) Stopped)
      → IfOk text (λ t. Views (string_bytes t) d (list_at (lists_of lists) 0) (first_filters given) cols rows) → WritesViewed held faults old new text result
      → ComesTo held faults given before after (view name cols rows) old new result
  viewed_comes held faults old new (Ok text) (Ok x) shows writes =
      (string_bytes text, (is_viewed (string_bytes text) shows, left_alone, refl), writes)
  viewed_comes held faults old new (Ok text) (Err SinkFault) shows writes =
      (string_bytes text, (is_viewed (string_bytes text) shows, left_alone, tt), writes)
  viewed_comes held faults old new (Ok text) (Err SourceFault) shows writes = absurd writes
  viewed_comes held faults old new (Ok text) (Err BadHead) shows writes = absurd writes
  viewed_comes held faults old new (Ok text) (Err (BadLine bad)) shows writes = absurd writes
  viewed_comes held faults old new (Ok text) (Err ShelfFault) shows writes = absurd writes
  viewed_comes held faults old new (Ok text) (Err (Refused why)) shows writes = absurd writes
  viewed_comes held faults old new (Ok text) (Err (NotFlattened why)) shows writes = absurd writes
  viewed_comes held faults old new (Ok text) (Err SaveFault) shows writes = absurd writes
  viewed_comes held faults old new (Ok text) (Err (Rejected why)) shows writes = absurd writes
  viewed_comes held faults old new (Ok text) (Err Memory) shows writes = absurd writes
  viewed_comes held faults old new (Err e) result shows writes =
      subst (λ (r : Result (Unit {0}) Stopped). ComesTo held faults given before after (view name cols rows) old new r) (sym writes.0)
      ((ap held writes.1, ap faults writes.1), left_alone)

-- ---- why a viewing stops

-- before the file is read
pub view_stopped : {K : Type 0} (held : K → Option (List ℕ)) (faults : K → ℕ) (given : Given) (s : ShelfState) (name : List ℕ)
    (cols rows : ℕ) (sink : K) (why : Stopped) → ReadsViewed given (Err why)
    → ComesTo held faults given s s (view name cols rows) sink sink (Err why)
view_stopped held faults given s name cols rows sink SourceFault reads = ((refl, refl), untouched s)
view_stopped held faults given s name cols rows sink BadHead reads = absurd reads
view_stopped held faults given s name cols rows sink (BadLine bad) reads = ((refl, refl), untouched s)
view_stopped held faults given s name cols rows sink ShelfFault reads = absurd reads
view_stopped held faults given s name cols rows sink (Refused why) reads = absurd reads
view_stopped held faults given s name cols rows sink (NotFlattened why) reads = absurd reads
view_stopped held faults given s name cols rows sink SaveFault reads = absurd reads
view_stopped held faults given s name cols rows sink (Rejected why) reads = absurd reads
view_stopped held faults given s name cols rows sink SinkFault reads = absurd reads
view_stopped held faults given s name cols rows sink Memory reads = ((refl, refl), untouched s)

pub script_stops : (given : Given) (content : Option Content) (why : Stopped) → ReadsViewed given (Err why)
    → StopsView given content (Err why)
script_stops given content SourceFault reads = tt
script_stops given content BadHead reads = absurd reads
script_stops given content (BadLine bad) reads = reads
script_stops given content ShelfFault reads = absurd reads
script_stops given content (Refused why) reads = absurd reads
script_stops given content (NotFlattened why) reads = absurd reads
script_stops given content SaveFault reads = absurd reads
script_stops given content (Rejected why) reads = absurd reads
script_stops given content SinkFault reads = absurd reads
script_stops given content Memory reads = tt

-- by the file
pub file_stops : (given : Given) (content : Option Content) (lists : List (List code.Line)) (why : Stopped)
    → ReadsViewed given (Ok lists) → Loads content (Err why) → StopsView given content (Err why)
file_stops given content lists SourceFault has loads = absurd loads
file_stops given content lists BadHead has loads = absurd loads
file_stops given content lists (BadLine bad) has loads = absurd loads
file_stops given content lists ShelfFault has loads = (list_at (lists_of lists) 0, has)
file_stops given content lists (Refused why) has loads = ((list_at (lists_of lists) 0, has), loads)
file_stops given content lists (NotFlattened why) has loads = absurd loads
file_stops given content lists SaveFault has loads = absurd loads
file_stops given content lists (Rejected why) has loads = absurd loads
file_stops given content lists SinkFault has loads = absurd loads
file_stops given content lists Memory has loads = tt

-- after the calls were made
pub text_stops : {K : Type 0} (held : K → Option (List ℕ)) (faults : K → ℕ) (old new : K) (given : Given) (content : Option Content)
    (lists : List (List code.Line)) (text : Result (String Global) AllocError) (result : Result (Unit {0}) Stopped)
    → ReadsViewed given (Ok lists) → WritesViewed held faults old new text result → StopsView given content result
text_stops held faults old new given content lists (Ok text) (Ok x) reads writes = tt
text_stops held faults old new given content lists (Ok text) (Err SourceFault) reads writes = absurd writes
text_stops held faults old new given content lists (Ok text) (Err BadHead) reads writes = absurd writes
text_stops held faults old new given content lists (Ok text) (Err (BadLine bad)) reads writes = absurd writes
text_stops held faults old new given content lists (Ok text) (Err ShelfFault) reads writes = absurd writes
text_stops held faults old new given content lists (Ok text) (Err (Refused why)) reads writes = absurd writes
text_stops held faults old new given content lists (Ok text) (Err (NotFlattened why)) reads writes = absurd writes
text_stops held faults old new given content lists (Ok text) (Err SaveFault) reads writes = absurd writes
text_stops held faults old new given content lists (Ok text) (Err (Rejected why)) reads writes = absurd writes
text_stops held faults old new given content lists (Ok text) (Err SinkFault) reads writes = tt
text_stops held faults old new given content lists (Ok text) (Err Memory) reads writes = absurd writes
text_stops held faults old new given content lists (Err e) result reads writes = subst (StopsView given content) (sym writes.0) tt

-- where reading the script stops, it need not be at its end
pub unread_view : (given : Given) (left : Option (List ℕ)) (why : Stopped) → ReadsViewed given (Err why)
    → ReadsToEnd left (Err why)
unread_view given left SourceFault reads = tt
unread_view given left BadHead reads = tt
unread_view given left (BadLine bad) reads = tt
unread_view given left ShelfFault reads = absurd reads
unread_view given left (Refused why) reads = absurd reads
unread_view given left (NotFlattened why) reads = absurd reads
unread_view given left SaveFault reads = absurd reads
unread_view given left (Rejected why) reads = absurd reads
unread_view given left SinkFault reads = absurd reads
unread_view given left Memory reads = tt

-- ---- a script that is read up to one byte more than it may have is read as a whole

abbrev refused_at : (number : ℕ) → Result (List Line) ℕ
refused_at number = Err number

view_too_long : (text : List ℕ) (filters : ℕ) → MAX_SCRIPT_BYTES + 1 ≤ length text
    → view_script text filters ≡ Err (line_of_byte text MAX_SCRIPT_BYTES)
view_too_long text filters long =
    let test : nat_le (length text) MAX_SCRIPT_BYTES ≡ false = grind (arith, nat_tests) in
    rw test refl

view_front : (front more : List ℕ) (filters : ℕ) → (length front ≡ MAX_SCRIPT_BYTES + 1) ⊎ (more ≡ [])
    → view_script front filters ≡ view_script (front ++ more) filters
view_front front more filters (inl full) =
    view_too_long front filters (omega arith)
    ∙ ap refused_at (same_line front more full)
    ∙ sym (view_too_long (front ++ more) filters (omega (arith, length-append front more)))
view_front front more filters (inr ended) = rw (ended, append-nil front) refl

-- what is read of a source tells what all that it had left comes to
pub view_read : (before after : Option (List ℕ)) (front text : List ℕ) (filters : ℕ) (r : Result (List Line) ℕ)
    → before ≡ led_by front after
    → (length front ≡ MAX_SCRIPT_BYTES + 1) ⊎ IsEnded after → text ≡ front → view_script text filters ≡ r
    → IfSome before (λ all. view_script all filters ≡ r)
view_read before None front text filters r led how same reads = rw led tt
view_read before (Some more) front text filters r led how same reads =
    rw led (sym (view_front front more filters how) ∙ ap (λ t. view_script t filters) (sym same) ∙ reads)

-- the same with the number of filters as it was counted
pub view_reads : (before after : Option (List ℕ)) (front text : List ℕ) (count filters : ℕ) (r : Result (List Line) ℕ)
    → before ≡ led_by front after
    → (length front ≡ MAX_SCRIPT_BYTES + 1) ⊎ IsEnded after → text ≡ front → count ≡ filters → view_script text count ≡ r
    → IfSome before (λ all. view_script all filters ≡ r)
view_reads before after front text count filters r led how same counted reads =
    subst (λ (n : ℕ). IfSome before (λ all. view_script all n ≡ r)) counted (view_read before after front text count r led how same reads)

-- how many filters the first session has
pub first_same : {B : Type 0} (state : B → FilterState) (some all : List (Vec B Global)) (count : ℕ) → some ≡ all
    → count ≡ length (list_at (states_of state some) 0) → count ≡ length (list_at (states_of state all) 0)
first_same {B} state some all count same are =
    are ∙ ap (λ (boxes : List (Vec B Global)). length (list_at (states_of state boxes) 0)) same
