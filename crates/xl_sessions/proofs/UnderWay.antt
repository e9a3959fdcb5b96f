-- The lines of a session, of which some were played and some are left.
use Rattle.std.proofs.Common.{◌≡◌, ℕ, List, [], ◌∷◌, ◌++◌, length, append-nil, append_assoc, sym, ap, ◌∙◌, subst}
use Rattle.std.specs.Prelude.{Option}
use mathlib.Core.List.{IsPrefix}
use Rattle.spec_document.specs.Document.{Document}
use Rattle.spec_filters.specs.declared.FilterState.{FilterState}
use Rattle.spec_history.specs.History.{latest_of}
use Rattle.spec_history.specs.Kept.{IsLegal}
use Rattle.xl_ports.specs.State.{ShelfState}
use Rattle.spec_script.specs.Script.{Line}
use Rattle.spec_script.specs.Fits.{AreFit, dropped_by}
use Rattle.spec_tables.specs.Agrees.{Agrees}
use Rattle.spec_seats.specs.Picked.{picked}
use Rattle.spec_seats.specs.Digests.{digests_in}
use Rattle.spec_seats.specs.Made.{HasMade, IsOf}
use Rattle.xl_studio.specs.Calling.{Known}
use Rattle.xl_studio.specs.Moments.{entries_in}
use Rattle.xl_sessions.specs.Playing.{IsLineMade}
use Rattle.xl_run.specs.Filters.{FitsChest, HasAll}
use Rattle.xl_run.proofs.Chests.{IsStocked, all_stocked, line_fits}
use Rattle.xl_sessions.proofs.Stocked.{line_stocked}
use Rattle.xl_sessions.proofs.SoFar.{IsSoFar, so_far_none, so_far_of, so_far_line}
use Rattle.xl_turn.proofs.Fronts.{prefix_self, prefix_trans}

module _ {K : Type 0} where
  -- what the lines so far have made, and that those left may be played
  pub record IsUnderWay (base : Document) (session : ℕ) (start now : List (Option FilterState)) (all left : List Line)
      (old known : Known K) (texts : List (List ℕ)) : Type 0 where
    pub begins : IsPrefix old.front known.front
    pub taken : List Line
    pub lines : all ≡ taken ++ left
    pub so_far : IsSoFar base session start now taken known texts
    pub dropped : List ℕ
    pub stocked : IsStocked (length start) dropped now
    pub fit : AreFit (length start) dropped left

  pub under_way_none : (base : Document) (session : ℕ) (start : List (Option FilterState)) (all left : List Line) (known : Known K)
      (texts : List (List ℕ)) → left ≡ all
      → known.made ≡ [] → latest_of (entries_in known.front) ≡ 0 → texts ≡ [] → HasAll start → AreFit (length start) [] all
      → IsUnderWay base session start start all left known known texts
  under_way_none base session start all left known texts whole none unchanged blank has fit = record {
    begins = prefix_self known.front;
    taken = [];
    lines = sym whole;
    so_far = so_far_none base session start known texts none unchanged blank;
    dropped = [];
    stocked = all_stocked start has;
    fit = subst (AreFit (length start) []) (sym whole) fit;
  }

  module _ {base : Document} {session : ℕ} {start now : List (Option FilterState)} {all left : List Line} {old known : Known K}
      {texts : List (List ℕ)}
      (way : IsUnderWay base session start now all left old known texts) where
    pub under_way_of : IsOf session known.made (entries_in known.front)
    under_way_of = so_far_of start known way.so_far

    pub under_way_fit : (line : Line) (rest : List Line) → left ≡ line ∷ rest → FitsChest now line
    under_way_fit line rest turn =
        line_fits (length start) way.dropped now line way.stocked (subst (AreFit (length start) way.dropped) turn way.fit).0

    pub under_way_more : (see : K → ShelfState) (opening : K) (line : Line) (rest : List Line) → left ≡ line ∷ rest
        → (after : List (Option FilterState)) (new : Known K) (said : List (List ℕ)) → IsLegal base (entries_in known.front)
        → IsPrefix known.front new.front
        → (told : List (List ℕ)) × (said ≡ texts ++ told) × IsLineMade see opening base session line now after known new told
        → IsUnderWay base session start after all rest old new said
    under_way_more see opening line rest turn after new said legal begins made = record {
      begins = prefix_trans old.front known.front new.front way.begins begins;
      taken = way.taken ++ line ∷ [];
      lines = way.lines ∙ ap (λ lines. way.taken ++ lines) turn ∙ sym (append_assoc way.taken (line ∷ []) rest);
      so_far = subst (IsSoFar base session start after (way.taken ++ line ∷ []) new) (sym made.1)
          (so_far_line legal way.so_far see opening line after new made.0 made.2);
      dropped = dropped_by way.dropped line;
      stocked = line_stocked see opening (length start) way.dropped base session line now after known new made.0 made.2 way.stocked;
      fit = (subst (AreFit (length start) way.dropped) turn way.fit).1;
    }

    -- at the end
    pub under_way_all : left ≡ [] → (filters : List FilterState) → Agrees start filters
        → HasMade session filters all known.made (entries_in known.front)
    under_way_all done filters agrees =
        subst (λ lines. HasMade session filters lines known.made (entries_in known.front))
        (sym (way.lines ∙ ap (λ lines. way.taken ++ lines) done ∙ append-nil way.taken))
        (way.so_far.made filters agrees)

    pub under_way_told : texts ≡ digests_in base (entries_in known.front) (picked known.made (entries_in known.front))
    under_way_told = way.so_far.told
