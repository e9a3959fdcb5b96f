-- A walk along the order of an output, and what is known at a place of it.
use Rattle.std.specs.Prelude.{◌≡◌, ℕ, ◌+◌, ◌<◌, ◌≤◌, Bool, true, false, List, [], ◌∷◌, ◌++◌, length}
use Rattle.std.specs.Prelude.{slice_index, slice_set, Option, Some, None, IfSome, MatchBool, option_map, unwrap_or, slice_get}
use Rattle.std.specs.List.{AllByRecursion}
use Rattle.spec_document.specs.declared.TileAt.{TileAt}
use Rattle.spec_document.specs.Document.{Document}
use Rattle.spec_document.specs.Limits.{AreBytes}
use Rattle.spec_filters.specs.declared.FilterState.{FilterState}
use Rattle.spec_cache.specs.Cache.{kept}
use Rattle.spec_history.specs.declared.TheConstants.{MAX_ENTRIES}
use Rattle.spec_history.specs.Machine.{Call, Reply, Saving}
use Rattle.spec_history.specs.History.{Entry, replay, next_index, mine, is_changed}
use Rattle.spec_script.specs.Script as lines
use Rattle.spec_script.specs.Script.{Line}
use Rattle.spec_tables.specs.Agrees.{Agrees, AreAsked}
use Rattle.spec_tables.specs.Tables.{edits_made, filters_along}
use Rattle.spec_text.specs.declared.OrderWord.{OrderWord}
use Rattle.spec_text.specs.Text.{is_save_memory}
use Rattle.spec_world.specs.World.{entries_owed}
use Rattle.spec_world.specs.Exact.{SlotsAreExact}
use Rattle.spec_audit.specs.Output.{Printed, Output}
use Rattle.spec_audit.specs.Walk.{Start, call_at, printed_at, entry_at, seen_by, Passes}
use Rattle.spec_standing.specs.Now.{response, world_of, Gives, ShowsNow, Stands}
use Rattle.xl_judging.specs.Calls.{IsNoCall}
use Rattle.xl_judging.specs.Judging.{digest_with, Decides, PeekIsRight}
use Rattle.xl_judging.specs.Versions.{shares_after, HasVersions}
use Rattle.xl_audit.specs.declared.walk.Walk.{Walk}

-- ---- what stands at a place

-- The walk has come through these entries: they stand, just what has to be kept is kept, and it has counted the calls of each
-- session, what each has seen, the version of the save that is out, and the versions that are wanted.
pub record HasCome (base : Document) (earlier : List Entry) (walk : Walk) : Type 0 where
  pub stands : Stands base earlier walk.standing walk.made
  pub exact : SlotsAreExact base (world_of base earlier walk.standing.cache)
  pub seen : (session : ℕ) → session < 8 → slice_index walk.seen session ≡ seen_by earlier session
  pub out : IfSome (replay base earlier).out (λ out. walk.out ≡ out.version)
  pub versions : HasVersions base (replay base earlier) walk.versions.wanted.items walk.versions.shares.items
  pub eight_made : length walk.made ≡ 8
  pub eight_seen : length walk.seen ≡ 8

-- ---- a word more

-- a save may start where none is out, and the end is that of the save that is out
abbrev pub MayStand : Option Saving → OrderWord → Line → (end : Bool) → Type 0
MayStand None w line true = ⊥
MayStand (Some out) w line true = (w.session ≡ out.session) × (w.index ≡ out.index)
MayStand None w line false = Unit {0}
MayStand (Some out) w (lines.call c) false = Unit {0}
MayStand (Some out) w lines.save false = ⊥
MayStand (Some out) w (lines.forget slot) false = Unit {0}

-- what the shape says of the next word
pub record IsNextWord (s : Start) (o : Output) (earlier : List Entry) (w : OrderWord) : Type 0 where
  pub eight : w.session < 8
  pub index : w.end ≡ false → w.index ≡ next_index earlier w.session
  pub few : w.end ≡ false → length earlier + entries_owed (replay s.base earlier).out + 2 ≤ MAX_ENTRIES
  pub stands : MayStand (replay s.base earlier).out w (call_at s.scripts w) w.end
  pub line : IsNoCall (call_at s.scripts w) → call_at s.scripts w ≡ lines.save
  pub printable : is_save_memory (printed_at o.replies w).reply ≡ false

-- the filters of a session behind these entries
abbrev pub filters_at : Start → (earlier : List Entry) → (session : ℕ) → List FilterState
filters_at s earlier session = filters_along (unwrap_or (slice_get s.chests session) []) (mine earlier session)

-- The word passes, and the walk and the chest of its session have come through its entry; or it fails.
abbrev pub IsJudged : Start → Output → (earlier : List Entry) → OrderWord → (passed : Bool) → Walk → (chest : List (Option FilterState))
    → Type 0
IsJudged s o earlier w passed walk chest =
    let more = earlier ++ entry_at s o earlier w ∷ [] in
    MatchBool passed
    (Passes s o earlier w × HasCome s.base more walk × Agrees chest (filters_at s more w.session))
    (Passes s o earlier w → ⊥)

-- ---- what a call makes of the plain state

-- the session has made a call more, and seen the version that stands then
pub record IsCounted (old new : Walk) (session : ℕ) (changed : Bool) : Type 0 where
  pub made : new.made ≡ slice_set old.made session (slice_index old.made session + 1)
  pub seen : new.seen ≡ slice_set old.seen session new.standing.version
  pub out : new.out ≡ old.out
  pub wanted : new.versions.wanted.items ≡ old.versions.wanted.items
  pub shares : new.versions.shares.items
      ≡ shares_after changed old.versions.wanted.items new.standing.document old.versions.shares.items

-- The call was answered by the filters of the chest, as far as the answer asks for them, and it is told whether it is the printed one.
pub record IsCalled (old : Walk) (session : ℕ) (c : Call) (printed : Printed) (before after : List (Option FilterState)) (passed : Bool)
    (new : Walk) : Type 0 where
  pub reply : Reply
  pub tables : List (List ℕ)
  pub bytes : List ℕ
  pub given : Gives (response old.standing c old.standing.version tables) reply new.standing
  pub asked : AreAsked before after (edits_made c reply) tables
  pub within : AllByRecursion AreBytes tables
  pub shown : ShowsNow new.standing c reply bytes
  pub judged : Decides passed (record { reply = reply; digest = digest_with reply bytes }) printed
  pub counted : passed ≡ true → IsCounted old new session (is_changed reply)

-- It is told whether what is printed for the peek is right, and what stands stays.
pub record IsPeeked (old : Walk) (session stack : ℕ) (at : TileAt) (printed : Printed) (passed : Bool) (new : Walk) : Type 0 where
  pub judged : PeekIsRight old.standing.document old.standing.version (slice_index old.seen session)
      (option_map (λ k. k.version) (kept old.standing.cache stack at old.standing.version)) old.versions.shares.items stack at printed
      passed
  pub standing : new.standing ≡ old.standing
  pub counted : passed ≡ true → IsCounted old new session false
