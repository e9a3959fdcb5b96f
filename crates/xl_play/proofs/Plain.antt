-- Whose entries they are, and the tables along them.
use Rattle.std.proofs.Common.{◌≡◌, ℕ, List, [], ◌∷◌, ◌++◌, refl, ap, sym, ◌∙◌, eq-eqb, ne_eqb}
use Rattle.std.specs.Prelude.{◌≢◌}
use Rattle.spec_history.specs.History.{Entry, mine}
use Rattle.spec_filters.specs.declared.FilterState.{FilterState}
use Rattle.spec_tables.specs.Tables.{HaveTables, expected_tables, filters_after, tables_in}
use Rattle.xl_play.specs.Playing.{AreOf}

-- ---- whose entries they are

pub mine_own : (es : List Entry) (session : ℕ) → AreOf session es → mine es session ≡ es
mine_own [] session own = refl
mine_own (e ∷ es) session own =
    rw (eq-eqb e.session session own.0) (ap (λ (rest : List Entry). e ∷ rest) (mine_own es session own.1))

pub mine_other : (es : List Entry) (session other : ℕ) → AreOf session es → session ≢ other → mine es other ≡ []
mine_other [] session other own apart = refl
mine_other (e ∷ es) session other own apart =
    rw (ne_eqb e.session other (λ q. apart (sym own.0 ∙ q))) (mine_other es session other own.1 apart)

-- those of a session and others of it
pub both_own : (es more : List Entry) (session : ℕ) → AreOf session es → AreOf session more → AreOf session (es ++ more)
both_own [] more session own also = also
both_own (e ∷ es) more session own also = (own.0, both_own es more session own.1 also)

-- ---- tables along the entries

-- the filters after the entries
abbrev pub filters_now : List FilterState → List Entry → List FilterState
filters_now filters [] = filters
filters_now filters (e ∷ es) = filters_now (filters_after filters e.kind e.reply) es

pub tables_more : (filters : List FilterState) (es : List Entry) (e : Entry) → HaveTables filters es
    → tables_in e.kind ≡ expected_tables (filters_now filters es) e.kind e.reply → HaveTables filters (es ++ e ∷ [])
tables_more filters [] e have here = (here, tt)
tables_more filters (x ∷ es) e have here = (have.0, tables_more (filters_after filters x.kind x.reply) es e have.1 here)

pub filters_more : (filters : List FilterState) (es more : List Entry)
    → filters_now filters (es ++ more) ≡ filters_now (filters_now filters es) more
filters_more filters [] more = refl
filters_more filters (e ∷ es) more = filters_more (filters_after filters e.kind e.reply) es more
