-- What holds of a word that is named as a cause.
use Rattle.std.specs.Prelude.{◌≡◌, ℕ, Bool, false, List, take, length, Option, None, is_some}
use Rattle.spec_script.specs.Commands.{are_colours, rule_of, no_rule}
use Rattle.spec_script.specs.Words.{◌>>=◌, if_holds, number_below, number, hex, flag, coordinate, side, signed_number}
use Rattle.xl_words.specs.declared.kind.WordKind.{WordKind}
use Rattle.xl_words.specs.declared.kind.WordKind.TheVariants.{Number, Coordinate, Side, Byte, LayerType, Flag, Offset, Hex, Colours}
use Rattle.xl_words.specs.declared.word_front.WordFront.{WordFront}
use Rattle.xl_words.specs.declared.cause.Cause.{Cause}
use Rattle.xl_words.specs.declared.cause.Cause.TheVariants.{TooLong, Tab, CarriageReturn, Blank, NoSession, NoKeyword}
use Rattle.xl_words.specs.declared.cause.Cause.TheVariants.{UnknownWord, WordCount, LeadingZero, BadWord, EndOutside}
use Rattle.xl_words.specs.declared.cause.Cause.TheVariants.{InsideGroup, EmptyGroup, FullGroup, NotEnded, DroppedFilter}
use Rattle.xl_words.specs.declared.cause.Cause.TheVariants.{NoFilter, TooManyCalls, OtherSession, NotViewed}
use Rattle.xl_words.specs.declared.cause.CauseOrMemory.{CauseOrMemory}
use Rattle.xl_words.specs.declared.cause.CauseOrMemory.TheVariants.{Memory, Refused}

-- the bytes of 1 to 256 colours in hexadecimal digits
abbrev pub colour_bytes : List ℕ → Option (List ℕ)
colour_bytes word = hex word >>= λ bytes. if_holds (are_colours bytes) bytes

-- whether the grammar reads the word as one of this kind
abbrev pub has : WordKind → List ℕ → Bool
has Number word = is_some (number word)
has Coordinate word = is_some (coordinate word)
has Side word = is_some (side word)
has Byte word = is_some (number_below 256 word)
has LayerType word = is_some (number_below 6 word)
has Flag word = is_some (flag word)
has Offset word = is_some (signed_number word)
has Hex word = is_some (hex word)
has Colours word = is_some (colour_bytes word)

-- it is the front of this word
abbrev pub Shows : WordFront → (word : List ℕ) → Type 0
Shows front word = (take (length word) front.bytes ≡ take 40 word) × (front.len ≡ length word)

-- Of a word that is named as no session, as no keyword or as not of a kind: what is shown is the front of one that the grammar
-- refuses as that. Other causes that name a word or a keyword say nothing of how it is spelled.
abbrev pub Blames : Cause → Type 0
Blames (NoSession front) = (word : List ℕ) × Shows front word × (number_below 8 word ≡ None)
Blames (UnknownWord front) = (word : List ℕ) × Shows front word × (rule_of word ≡ no_rule)
Blames (BadWord place front kind) = (word : List ℕ) × Shows front word × (has kind word ≡ false)
Blames (LeadingZero place front) = Unit {0}
Blames TooLong = Unit {0}
Blames Tab = Unit {0}
Blames CarriageReturn = Unit {0}
Blames Blank = Unit {0}
Blames NoKeyword = Unit {0}
Blames (WordCount keyword least most found) = Unit {0}
Blames EndOutside = Unit {0}
Blames (InsideGroup keyword) = Unit {0}
Blames EmptyGroup = Unit {0}
Blames FullGroup = Unit {0}
Blames NotEnded = Unit {0}
Blames (DroppedFilter slot) = Unit {0}
Blames (NoFilter slot) = Unit {0}
Blames TooManyCalls = Unit {0}
Blames OtherSession = Unit {0}
Blames (NotViewed keyword) = Unit {0}

-- the same of a cause, unless memory ran out
abbrev pub BlamesIf : CauseOrMemory → Type 0
BlamesIf Memory = Unit {0}
BlamesIf (Refused cause) = Blames cause
