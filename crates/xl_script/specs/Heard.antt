-- What the code hears in a line.
use Rattle.std.specs.Prelude.{◌≡◌, Result, Ok, Err}
use Rattle.spec_serve.specs.Hearing as talk
use Rattle.xl_script.specs.Lines.{line_of}
use Rattle.xl_script.specs.declared.hearing.Heard.{Heard}
use Rattle.xl_script.specs.declared.hearing.Heard.TheVariants.{Plays, Nothing, Bad}

abbrev pub asks_is : Heard → talk.Asks
asks_is (Plays session line) = talk.plays session (line_of line)
asks_is Nothing = talk.nothing
asks_is (Bad cause) = talk.bad

-- what the line asks for, and what was heard then; out of memory, nothing was heard
abbrev pub Hears : {E : Type 0} → Result Heard E → (old new : talk.Hearing) → talk.Heard → Type 0
Hears (Ok heard) old new is = record { asks = asks_is heard; hearing = new } ≡ is
Hears (Err e) old new is = new ≡ old
