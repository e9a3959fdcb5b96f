-- What of a session may go to another thread.
use mathlib.Core.List.{[], ◌∷◌}
use Prim.Native.Nat.{ℕ}
use base.Fml.{Lft}
use mir.Syntax.{Ty, Sym, Lifetime}
use denote.Exit.{no}
use denote.Param.{param, arg}
use denote.Param.Send.{IsSend, IsSync, sendable, view_send, mut_send, shr_send}
use denote.Param.SendFields.{as_row_send, declared_send}
use denote.RattleType.{RattleType}
use denote.Ref.{MutRef, ShrRef}
use denote.Struct.Tuple.{TupleAt}
use Rattle.std.proofs.Crossing.{Arc-send}
use Rattle.std.specs.contracts.alloc.Global as Global
use Rattle.std.specs.contracts.impls.GlobalAllocator.TheImpl as heap
use Rattle.std.specs.contracts.sync.Arc as Arc
use Rattle.xl_ports.specs.declared.shelf.Shelf as Shelf
use Rattle.xl_studio.specs.contracts.shared.SharedChronicle.TheImpl as chronicle
use Rattle.xl_turn.proofs.Sent.{none, also, captures_send}
use Rattle.xl_studio.proofs.Sent.{seat_send, studio_row, studio_send, studio_sync}
use Rattle.xcf_sessions.specs.contracts.session.Session as Session
use Rattle.xcf_sessions.specs.contracts.session.Session.TheInside as Inside

module _ (D : RattleType) (g : Shelf.Ghosts D.Denot) where
  abbrev pub session_row : RattleType
  session_row = Session.the_row D (chronicle.ghosts D g chronicle.no_dict chronicle.no_dict) g

  pub session_send : IsSend D → IsSend session_row
  session_send d =
      let c = chronicle.ghosts D g chronicle.no_dict chronicle.no_dict in
      view_send (Inside.the_row D c g) _ _ _ _ (declared_send (Inside.the_type D c g) (
        as_row_send (Arc.the_field (studio_row D g) Global.the_row heap.ghosts)
            (Arc-send (studio_row D g) (studio_send D g d) (studio_sync D g d)),
        (
          seat_send D g d,
          (search sendable, (search sendable, (search sendable, tt))),
        ),
      ))

  -- the closure of a thread that captures the runtime, the allocator and a session that is lent to it
  pub lent_session : (i : ℕ) (δ : Ty) (ν : Sym) (ℓ m n : Lifetime) (κ η μ : Lft) (R A : RattleType) → IsSend D → IsSync R → IsSync A
      → IsSend (param i (arg δ no (TupleAt ν (ShrRef ℓ κ R ∷ ShrRef m η A ∷ MutRef n μ session_row ∷ []))))
  lent_session i δ ν ℓ m n κ η μ R A d r a =
      captures_send i δ ν _ (also (shr_send ℓ κ R r) (also (shr_send m η A a)
      (also (mut_send n μ session_row (session_send d)) none)))
