-- What may go to another thread, and what threads may share: a struct by its fields, a closure by its captures, and a
-- seat where the value may.
use mathlib.Core.List.{List, [], ◌∷◌}
use Prim.Native.Nat.{ℕ}
use mir.Syntax.{Ty, Sym}
use denote.Exit.{no}
use denote.Param.{param, arg}
use denote.Param.Send.{IsSend, IsSync, AllSend, AllSync, sendable, param_send, param_sync, arg_send, arg_sync}
use denote.Param.Send.{recorded_send, recorded_sync, struct_send, struct_sync}
use denote.RattleType.{RattleType}
use denote.Struct.Declared.{Declared, shape, row}
use denote.Struct.Field.{rows}
use denote.Struct.Struct.{Struct}
use denote.Struct.Tuple.{TupleAt, parts, type_at}
use Rattle.std.proofs.Crossing.{crosses}
use Rattle.atomic_table.proofs.shared.Seat.TheSendSync as seats
use Rattle.xl_turn.specs.declared.view.Chronicle as Chronicle
use Rattle.xl_turn.specs.contracts.seat.TurnSeat as TurnSeat

pub parts_send : (T : Declared) → AllSend (shape T).fields → IsSend (row T)
parts_send T all = recorded_send (Struct (shape T)) _ _ T.to_one (struct_send (shape T) all)

pub parts_sync : (T : Declared) → AllSync (shape T).fields → IsSync (row T)
parts_sync T all = recorded_sync (Struct (shape T)) _ _ T.to_one (struct_sync (shape T) all)

-- a law of each of some types, as of the captures of a closure
pub data Each (P : RattleType → Type 0) : List RattleType → Type 1 where
  none : Each P []
  also : {A : RattleType} {As : List RattleType} → P A → Each P As → Each P (A ∷ As)

all_send : (As : List RattleType) → Each IsSend As → AllSend (rows (parts As))
all_send [] none = tt
all_send (A ∷ As) (also one each) = (one, all_send As each)

all_sync : (As : List RattleType) → Each IsSync As → AllSync (rows (parts As))
all_sync [] none = tt
all_sync (A ∷ As) (also one each) = (one, all_sync As each)

pub captures_send : (i : ℕ) (δ : Ty) (ν : Sym) (As : List RattleType) → Each IsSend As
    → IsSend (param i (arg δ no (TupleAt ν As)))
captures_send i δ ν As each = param_send i _ (arg_send δ no _ (parts_send (type_at ν As) (all_send As each)))

pub captures_sync : (i : ℕ) (δ : Ty) (ν : Sym) (As : List RattleType) → Each IsSync As
    → IsSync (param i (arg δ no (TupleAt ν As)))
captures_sync i δ ν As each = param_sync i _ (arg_sync δ no _ (parts_sync (type_at ν As) (all_sync As each)))

pub seat_send : (T E : RattleType) (c : Chronicle.Ghosts T.Denot E.Denot) → IsSend T → IsSend (TurnSeat.the_row T E c)
seat_send T E c t = search (seats.the_send, crosses, sendable) depth 60
