-- What a run of edit comes to whose script was played.
use Rattle.std.proofs.Common.{◌≡◌, inl, inr, ℕ, List, Some, ap, refl, sym, subst, false, true}
use Rattle.std.specs.Prelude.{Option, Bool, IfSome, Result, Ok, Err, string_bytes}
use Rattle.std.specs.declared.alloc.AllocError.{AllocError}
use Rattle.spec_command.specs.Arguments.{edit}
use Rattle.spec_document.specs.Document.{Document}
use Rattle.spec_document.specs.Limits.{IsDocument}
use Rattle.spec_saves.specs.Names.{save_faults}
use Rattle.spec_run.specs.Failed.{NoneFailed, SomeFailed, AnyFailed, WhetherFailed}
use Rattle.xl_play.specs.Told.{IsPlayed}
use Rattle.xl_outcome.specs.Files.{HoldsDocument}
use Rattle.xl_outcome.specs.Outcome.{Given, HasLines, opened, IsUntouched, IsHistory}
use Rattle.xl_outcome.specs.Outcome.{IsReplies, ComesTo}
use Rattle.xl_ports.specs.Shelf.{Content}
use Rattle.xl_ports.specs.State.{ShelfState}
use Rattle.xl_ports.specs.Disk.{read_at}
use Rattle.xl_outcome.specs.Parts.{Loads, ReadsScript, StopsEdit}
use Rattle.xl_commands.specs.Played.{WritesReplies}
use Rattle.xl_play.specs.declared.playing.Replies.{Replies}
use Rattle.xl_outcome.specs.declared.stopped.Stopped.{Stopped}
use Rattle.xl_outcome.specs.declared.stopped.Stopped.TheVariants.{SourceFault, BadHead, BadLine, ShelfFault, Refused}
use Rattle.xl_outcome.specs.declared.stopped.Stopped.TheVariants.{NotFlattened, SaveFault, Rejected, SinkFault, Memory}
use Rattle.spec_script.specs.Script.{Line}
use Rattle.spec_run.proofs.Earlier.{right_earlier}
use Rattle.spec_run.proofs.LastFile.{has_last}
use Rattle.xl_outcome.proofs.Taken.{untouched}

-- what was known when the script was played
pub record IsOpened (given : Given) (before mid : ShelfState) (name : List ℕ) (d : Document) (lists : List (List Line)) : Type 0 where
  pub holds : IfSome (read_at before.disk name) (λ c. HoldsDocument c d)
  pub within : IsDocument d
  pub read : HasLines given lists
  pub untouched : IsUntouched before mid
  pub named : mid.selected ≡ Some name
  pub reading : mid.reading ≡ before.reading

pub none_failed : (b : Bool) → b ≡ false → (n : ℕ) → WhetherFailed b n → NoneFailed n
none_failed false is n h = h
none_failed true is n h = let bad : true ≡ false = is in cc

pub some_failed : (b : Bool) → b ≡ true → (n : ℕ) → WhetherFailed b n → SomeFailed n
some_failed true is n h = h
some_failed false is n h = let bad : false ≡ true = is in cc

module _ {given : Given} {before mid : ShelfState} {name : List ℕ} {d : Document} {lists : List (List Line)}
    (known_then : IsOpened given before mid name d lists) (after : ShelfState) (workers : ℕ) where
  history_of : (replies : Result Replies AllocError) (played : IsPlayed mid after d lists given.chests workers replies)
      → IsHistory name before after d played.entries
  history_of replies played =
      let right =
      right_earlier (opened before after name) mid after d played.entries (sym known_then.named) refl
      (sym known_then.reading)
      (sym known_then.untouched.saving) known_then.untouched.quiet played.shelf in
      record {
        held = known_then.holds;
        within = known_then.within;
        legal = played.legal;
        versions = played.versions;
        shelf = right;
        file = λ none. has_last d played.entries name before.disk after.disk none right.contents;
      }

  replies_of : (replies : Replies) (P : ℕ → Type 0)
      (played : IsPlayed mid after d lists given.chests workers (Ok replies))
      → ((n : ℕ) → WhetherFailed replies.save_failed n → P n)
      → IsReplies given name before after workers P (string_bytes replies.text)
  replies_of replies P played fails = record {
    document = d;
    lists = lists;
    entries = played.entries;
    history = history_of (Ok replies) played;
    read = known_then.read;
    text = played.told.text;
    alone = played.told.alone;
    failed = fails (save_faults played.entries) played.told.failed;
  }

  -- what is written, and the shelf
  pub played_comes : {K : Type 0} (held : K → Option (List ℕ)) (faults : K → ℕ) (old new : K) (replies : Result Replies AllocError)
      (result : Result (Unit {0}) Stopped)
      → IsPlayed mid after d lists given.chests workers replies → WritesReplies held faults old new replies result
      → ComesTo held faults given before after (edit name workers) old new result
  played_comes held faults old new (Ok replies) (Ok x) played writes =
      (string_bytes replies.text, replies_of replies NoneFailed played (none_failed replies.save_failed writes.1), writes.0)
  played_comes held faults old new (Ok replies) (Err SaveFault) played writes =
      (string_bytes replies.text, replies_of replies SomeFailed played (some_failed replies.save_failed writes.1), writes.0)
  played_comes held faults old new (Ok replies) (Err (Rejected why)) played writes = absurd writes
  played_comes held faults old new (Ok replies) (Err SinkFault) played writes =
      (string_bytes replies.text, replies_of replies AnyFailed played (λ n h. tt), writes)
  played_comes held faults old new (Ok replies) (Err SourceFault) played writes = absurd writes
  played_comes held faults old new (Ok replies) (Err BadHead) played writes = absurd writes
  played_comes held faults old new (Ok replies) (Err (BadLine bad)) played writes = absurd writes
  played_comes held faults old new (Ok replies) (Err ShelfFault) played writes = absurd writes
  played_comes held faults old new (Ok replies) (Err (Refused refused)) played writes = absurd writes
  played_comes held faults old new (Ok replies) (Err (NotFlattened why)) played writes = absurd writes
  played_comes held faults old new (Ok replies) (Err Memory) played writes = absurd writes
  played_comes held faults old new (Err e) result played writes =
      subst (λ (r : Result (Unit {0}) Stopped). ComesTo held faults given before after (edit name workers) old new r) (sym writes.0) (
        (ap held writes.1, ap faults writes.1),
        inr (record {
          document = d;
          lists = lists;
          entries = played.entries;
          history = history_of (Err e) played;
          read = known_then.read;
          front = played.front;
        }),
      )

-- ---- why an editing stops

-- before the file is read
pub read_stopped : {K : Type 0} (held : K → Option (List ℕ)) (faults : K → ℕ) (given : Given) (s : ShelfState) (name : List ℕ)
    (sink : K) (why : Stopped) → ReadsScript given (Err why)
    → (workers : ℕ) → ComesTo held faults given s s (edit name workers) sink sink (Err why)
read_stopped held faults given s name sink SourceFault reads workers = ((refl, refl), untouched s)
read_stopped held faults given s name sink BadHead reads workers = absurd reads
read_stopped held faults given s name sink (BadLine bad) reads workers = ((refl, refl), untouched s)
read_stopped held faults given s name sink ShelfFault reads workers = absurd reads
read_stopped held faults given s name sink (Refused refused) reads workers = absurd reads
read_stopped held faults given s name sink (NotFlattened cause) reads workers = absurd reads
read_stopped held faults given s name sink SaveFault reads workers = absurd reads
read_stopped held faults given s name sink (Rejected why) reads workers = absurd reads
read_stopped held faults given s name sink SinkFault reads workers = absurd reads
read_stopped held faults given s name sink Memory reads workers = ((refl, refl), inl (untouched s))

-- by the file
pub load_stops : (given : Given) (content : Option Content) (lists : List (List Line)) (why : Stopped) → HasLines given lists
    → Loads content (Err why) → StopsEdit given content (Err why)
load_stops given content lists SourceFault has loads = absurd loads
load_stops given content lists BadHead has loads = absurd loads
load_stops given content lists (BadLine bad) has loads = absurd loads
load_stops given content lists ShelfFault has loads = (lists, has)
load_stops given content lists (Refused refused) has loads = ((lists, has), loads)
load_stops given content lists (NotFlattened cause) has loads = absurd loads
load_stops given content lists SaveFault has loads = absurd loads
load_stops given content lists (Rejected why) has loads = absurd loads
load_stops given content lists SinkFault has loads = absurd loads
load_stops given content lists Memory has loads = tt

-- after the script was played
pub play_stops : {K : Type 0} (held : K → Option (List ℕ)) (faults : K → ℕ) (old new : K) (given : Given) (content : Option Content)
    (lists : List (List Line)) (replies : Result Replies AllocError) (result : Result (Unit {0}) Stopped)
    → HasLines given lists → WritesReplies held faults old new replies result → StopsEdit given content result
play_stops held faults old new given content lists (Ok replies) (Ok x) has writes = tt
play_stops held faults old new given content lists (Ok replies) (Err SourceFault) has writes = absurd writes
play_stops held faults old new given content lists (Ok replies) (Err BadHead) has writes = absurd writes
play_stops held faults old new given content lists (Ok replies) (Err (BadLine bad)) has writes = absurd writes
play_stops held faults old new given content lists (Ok replies) (Err ShelfFault) has writes = absurd writes
play_stops held faults old new given content lists (Ok replies) (Err (Refused refused)) has writes = absurd writes
play_stops held faults old new given content lists (Ok replies) (Err (NotFlattened why)) has writes = absurd writes
play_stops held faults old new given content lists (Ok replies) (Err SaveFault) has writes = (lists, has)
play_stops held faults old new given content lists (Ok replies) (Err (Rejected why)) has writes = absurd writes
play_stops held faults old new given content lists (Ok replies) (Err SinkFault) has writes = tt
play_stops held faults old new given content lists (Ok replies) (Err Memory) has writes = absurd writes
play_stops held faults old new given content lists (Err e) result has writes = subst (StopsEdit given content) (sym writes.0) tt
