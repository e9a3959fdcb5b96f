use Rattle.std.proofs.Common.{◌∙◌, ap}
use Rattle.std.specs.Prelude.{Some}
use Rattle.xl_words.proofs.HexPairs.{read_some, read_none}
use Rattle.xl_words.proofs.digits.hex_bytes.Goals as goal

pub returns-in-Ok : goal.returns-in-Ok
returns-in-Ok c = ap Some c.from_vec.ensures ∙ read_some c.args.digits.now c.in-Ok.ensures.ok

pub returns-in-Err-InvalidHexCharacter : goal.returns-in-Err-InvalidHexCharacter
returns-in-Err-InvalidHexCharacter c = read_none c.args.digits.now _ (λ e. cc) c.in-Err-InvalidHexCharacter.ensures.err

pub returns-in-Err-OddLength : goal.returns-in-Err-OddLength
returns-in-Err-OddLength c = read_none c.args.digits.now _ (λ e. cc) c.in-Err-OddLength.ensures.err

pub returns-in-Err-InvalidStringLength : goal.returns-in-Err-InvalidStringLength
returns-in-Err-InvalidStringLength c = read_none c.args.digits.now _ (λ e. cc) c.in-Err-InvalidStringLength.ensures.err
