use Rattle.std.proofs.Common.{◌≡◌, suc, ◌-◌, length, map}
use Rattle.spec_listing.specs.Parasites.{names_at}
use Rattle.xl_listing.proofs.NamesRead.{with_front}
use Rattle.xl_listing.proofs.parasites.payload_names.Given as goal

-- the names so far, and those that are left
abbrev pub invariant-loop-read : goal.invariant-loop-read
invariant-loop-read l =
    with_front (map (λ n. n.now) l.names.items) (names_at (suc (length l.payload) - l._read) l.payload l.at)
    ≡ names_at (suc (length l.payload)) l.payload 0
