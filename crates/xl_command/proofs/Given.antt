-- What the matches of a command ask for.
use Rattle.std.proofs.Common.{◌≡◌, ℕ, List, [], ◌∷◌, Bool, true, false, cond, codes, Option, Some, None, option_map}
use Rattle.std.proofs.Common.{refl, sym, ap, ◌∙◌, subst}
use Rattle.std.specs.Prelude.{unwrap_or, nat_abs, slice_get}
use Rattle.std.specs.Borrow.{Bor}
use Rattle.std.specs.Str.{bytes_eq}
use Rattle.std.proofs.lemmas.Slice.Eq.{bytes_eq-Decides}
use Rattle.std.specs.Str.Parse.{starts_with_minus, signed_digits_value}
use Rattle.clap.specs.Matches.{first_value, found_of}
use Rattle.clap.specs.Simple.{App, matches_of}
use Rattle.clap.specs.Walk.{Row, Text, first_of, rows_of}
use Rattle.clap.specs.declared.parser.matches.ArgMatches.{ArgMatches}
use Rattle.clap.specs.declared.parser.matches.Found.{Found}
use Rattle.clap.proofs.WalkLemmas.{first_value-rows}
use Rattle.spec_command.specs.Arguments.{Argument, Asked}
use Rattle.spec_command.specs.Grammar.{file_where, is_faultless, is_given, number_of, asked_in, asked_where}
use Rattle.xl_command.specs.Asking.{plain_name, arguments_of}

abbrev text_of : Option (Bor (List ℕ)) → Option (List ℕ)
text_of o = option_map (λ s. s.now) o

-- ---- values

pub first_is : (f : Found) (id : Text) (o found : Option (Bor (List ℕ))) → text_of o ≡ first_value f id → o ≡ found
    → first_of id (rows_of f) ≡ text_of found
first_is f id o found value is = sym (first_value-rows f id) ∙ (sym value ∙ ap text_of is)

pub number_default : (f : Found) (id : Text) (o : Option (Bor (List ℕ))) (default : ℕ) → text_of o ≡ first_value f id → o ≡ None
    → default ≡ number_of (rows_of f) id default
number_default f id o default value is =
    ap (λ (t : Option (List ℕ)). unwrap_or (option_map (λ text. nat_abs (signed_digits_value 10 text)) t) default)
    (sym (first_is f id o None value is))

pub number_given : (f : Found) (id : Text) (o : Option (Bor (List ℕ))) (s : Bor (List ℕ)) (n default : ℕ)
    → text_of o ≡ first_value f id → o ≡ Some s → n ≡ nat_abs (signed_digits_value 10 s.now)
    → n ≡ number_of (rows_of f) id default
number_given f id o s n default value is read =
    read ∙ ap (λ (t : Option (List ℕ)). unwrap_or (option_map (λ text. nat_abs (signed_digits_value 10 text)) t) default)
    (sym (first_is f id o (Some s) value is))

-- a flag is given where its value is this word
pub flag_none : (f : Found) (id : Text) (o : Option (Bor (List ℕ))) → text_of o ≡ first_value f id → o ≡ None
    → false ≡ is_given (rows_of f) id
flag_none f id o value is = sym (ap (λ (t : Option (List ℕ)). bytes_eq (unwrap_or t []) (codes "true")) (first_is f id o None value is))

pub flag_some : (f : Found) (id : Text) (o : Option (Bor (List ℕ))) (s : Bor (List ℕ)) → text_of o ≡ first_value f id → o ≡ Some s
    → bytes_eq s.now (codes "true") ≡ is_given (rows_of f) id
flag_some f id o s value is =
    sym (ap (λ (t : Option (List ℕ)). bytes_eq (unwrap_or t []) (codes "true")) (first_is f id o (Some s) value is))

pub file_of : (f : Found) (id : Text) (o found : Option (Bor (List ℕ))) (r : Option Argument) → text_of o ≡ first_value f id
    → o ≡ found → r ≡ plain_name (text_of found) → r ≡ plain_name (first_of id (rows_of f))
file_of f id o found r value is name = name ∙ ap plain_name (sym (first_is f id o found value is))

-- ---- commands

where_named : (ask : Argument → Asked) (o : Option Argument) (name : Argument) → Some name ≡ plain_name o
    → file_where ask o ≡ Some (ask name)
where_named ask None name e = cc
where_named ask (Some n) name e = go (starts_with_minus n) e
  where
    go : (b : Bool) → Some name ≡ cond b None (Some n) → cond b None (Some (ask n)) ≡ Some (ask name)
    go true e = cc
    go false e = ap (option_map ask) (sym e)

-- the command takes the arguments, and the name of the file is no option
pub asked_given : (a b : App) (arguments : List Argument) (ask : List Row → Argument → Asked) (m : ArgMatches) (name : Argument)
    → a ≡ b → is_faultless a arguments ≡ true → rows_of (found_of m) ≡ matches_of a arguments
    → Some name ≡ plain_name (first_of (codes "file") (rows_of (found_of m)))
    → Some (ask (rows_of (found_of m)) name) ≡ asked_where b arguments ask
asked_given a b arguments ask m name same fine rows file =
    subst (λ (app : App). Some (ask (rows_of (found_of m)) name) ≡ asked_where app arguments ask) same
    (sym (
    ap (λ (t : Bool). cond t (file_where (ask (matches_of a arguments)) (first_of (codes "file") (matches_of a arguments))) None)
    fine
    ∙ (ap (λ (rs : List Row). file_where (ask rs) (first_of (codes "file") rs)) (sym rows)
    ∙ where_named (ask (rows_of (found_of m))) (first_of (codes "file") (rows_of (found_of m))) name file)
    ))

-- no command has this name
pub none_asked : (arguments : List Argument) (verb : Argument) → slice_get arguments 0 ≡ Some verb
    → bytes_eq verb (codes "edit") ≡ false → bytes_eq verb (codes "render") ≡ false
    → bytes_eq verb (codes "info") ≡ false → bytes_eq verb (codes "make") ≡ false
    → bytes_eq verb (codes "pack") ≡ false → bytes_eq verb (codes "flatten") ≡ false
    → bytes_eq verb (codes "view") ≡ false → bytes_eq verb (codes "audit") ≡ false → None ≡ asked_in arguments
none_asked [] verb has e r i m p f v a = refl
none_asked (w ∷ arguments) verb has e r i m p f v a =
    let same : w ≡ verb = ap (λ (o : Option Argument). unwrap_or o w) has in
    subst (λ v. None ≡ asked_in (v ∷ arguments)) (sym same) (rw (e, r, i, m, p, f, v, a) refl)

pub none_among : (arguments : List (Bor Argument)) (verb : Bor Argument) → slice_get arguments 0 ≡ Some verb
    → bytes_eq verb.now (codes "edit") ≡ false → bytes_eq verb.now (codes "render") ≡ false
    → bytes_eq verb.now (codes "info") ≡ false → bytes_eq verb.now (codes "make") ≡ false
    → bytes_eq verb.now (codes "pack") ≡ false → bytes_eq verb.now (codes "flatten") ≡ false
    → bytes_eq verb.now (codes "view") ≡ false → bytes_eq verb.now (codes "audit") ≡ false
    → None ≡ asked_in (arguments_of arguments)
none_among [] verb has e r i m p f v a = refl
none_among (w ∷ arguments) verb has e r i m p f v a =
    none_asked (arguments_of (w ∷ arguments)) verb.now (ap text_of has) e r i m p f v a

pub differ_in_bytes : (a b : Argument) → (a ≡ b → ⊥) → bytes_eq a b ≡ false
differ_in_bytes a b differs = go (bytes_eq a b) refl
  where
    go : (t : Bool) → bytes_eq a b ≡ t → bytes_eq a b ≡ false
    go true e = absurd (differs ((bytes_eq-Decides a b).0 e))
    go false e = e
