-- Facts on the texts of a command line.
use Rattle.std.proofs.Common.{◌≡◌, ℕ, Bool, true, false, List, [], Option, Some, None, Result, Ok, Err, IfOk, option_map, unwrap_or, refl, subst, sym, ap, ◌∙◌}
use Rattle.std.specs.Prelude.{◌&&◌, Box, MatchOption}
use Rattle.std.specs.Borrow.{Bor}
use Rattle.std.specs.Str.Parse.{ParsesUnsigned}
use Rattle.clap.specs.Words.{App, Row, Text, TriesOne, fault_of, is_simple, is_simple_and_free, built, matches_of, one_of, one_text, rows_of, subcommand_of}
use Rattle.clap.specs.Faults.{is_free_app}
use Rattle.clap.specs.Matches.{subcommand_name_of}
use Rattle.clap.specs.Words.{subcommand_rows, subcommand_rows_of}
use Rattle.clap.specs.declared.parser.matches.ArgMatches.{ArgMatches}
use Rattle.clap.specs.declared.parser.matches.ArgMatches.TheViews.{out-ArgMatches, out-SubCommand}
use Rattle.clap.specs.declared.parser.matches.SubCommand.{SubCommand}
use Rattle.std.specs.Box.{box_value}
use Rattle.clap.specs.declared.parser.matches.Found.{Found}
use Rattle.clap.proofs.OnLiterals.{clap_on_literals}
use Rattle.clap.proofs.WalkLemmas.{one_text-rows}
use Rattle.usage.specs.Apps.{program_app}
use Rattle.usage.specs.Line.{CommandLineGives, IsRead, LineGives, LineOf}
use Rattle.usage.specs.Values.{IsNumberOf}
use Rattle.usage.specs.declared.requests.CommandLine.{CommandLine}
use Rattle.usage.specs.declared.requests.Line.{Line}

-- what an optional text is, by what it points to
pub MatchOption-now : (o : Option (Bor Text)) (first : Option Text) → option_map (λ s. s.now) o ≡ first
    → MatchOption o (first ≡ None) (λ text. first ≡ Some text.now)
MatchOption-now None first e = sym e
MatchOption-now (Some s) first e = sym e

-- the first of two tests that hold both
and_first : (a b : Bool) → (a && b) ≡ true → a ≡ true
and_first true b e = refl
and_first false b e = absurd cc

-- the program is a command of which `clap` states the matches and the errors
pub is_simple_and_free-program : is_simple_and_free program_app ≡ true
unfolding clap_on_literals
is_simple_and_free-program = refl

-- and so one of which it states the matches: this is a part of that, and is not computed twice
pub is_simple-program : is_simple program_app ≡ true
is_simple-program = and_first (is_simple program_app) (is_free_app (built program_app)) is_simple_and_free-program

-- what `clap` gives the program and its command
abbrev pub IsGivenBy : App → List Text → List Row → Option (Text × List Row) → Type 0
IsGivenBy app words above parsed = (above ≡ matches_of app words) × (parsed ≡ subcommand_of app words)

-- what the words of a command line ask for, by what `clap` gives
pub CommandLineGives-parsed : (app : App) (words : List Text) (above : List Row) (parsed : Option (Text × List Row)) (asked : CommandLine) → app ≡ program_app
    → (is_simple_and_free app ≡ true → fault_of app words ≡ []) → (is_simple app ≡ true → IsGivenBy app words above parsed)
    → IsRead above parsed asked → CommandLineGives words asked
CommandLineGives-parsed app words above parsed asked same taken walked read =
    let given : IsGivenBy program_app words above parsed = subst (λ (a : App). IsGivenBy a words above parsed) same (walked (ap is_simple same ∙ is_simple-program)) in (
      subst (λ (a : App). fault_of a words ≡ []) same (taken (ap is_simple_and_free same ∙ is_simple_and_free-program)),
      subst (λ (p : Option (Text × List Row)). IsRead (matches_of program_app words) p asked) given.1
          (subst (λ (rows : List Row). IsRead rows parsed asked) given.0 read),
    )

-- the name of the subcommand, from its rows
pub subcommand_name_of-rows : (m : ArgMatches) → subcommand_name_of m ≡ option_map (λ p. p.0) (subcommand_rows_of m)
subcommand_name_of-rows m = go (out-ArgMatches m).subcommand
  where
    go : {Z : Type 0} (o : Option (Box SubCommand Z)) → option_map (λ b. (out-SubCommand (box_value b)).name.now) o ≡ option_map (λ p. p.0) (subcommand_rows o)
    go None = refl
    go (Some b) = refl

-- the line of the command that a parse met
pub LineOf-met : (parsed : Option (Text × List Row)) (name : Text) (rows : List Row) (asked : Line) → Some name ≡ option_map (λ p. p.0) parsed
    → Some rows ≡ option_map (λ p. p.1) parsed → LineGives name rows asked → LineOf parsed asked
LineOf-met None name rows asked named given gives = cc named
LineOf-met (Some p) name rows asked named given gives =
    let is_name : name ≡ p.0 = ap (λ (o : Option Text). unwrap_or o []) named in
    let is_rows : rows ≡ p.1 = ap (λ (o : Option (List Row)). unwrap_or o []) given in
    subst (λ (known : Text). LineGives known p.1 asked) is_name (subst (λ (known : List Row). LineGives name known asked) is_rows gives)

-- the number that `clap` reads of an option's text
pub IsNumberOf-read : {E : Type 0} (gives : Text → Result ℕ E → Type 0) (f : Found) (id : Text) (r : Result (Option ℕ) E)
    → ((t : Text) (x : Result ℕ E) → gives t x → ParsesUnsigned 64 10 t x) → (one_text f id ≡ None → r ≡ Ok None)
    → ((t : Text) → one_text f id ≡ Some t → TriesOne gives t r) → IfOk r (IsNumberOf (one_of id (rows_of f)))
IsNumberOf-read {E} gives f id r parses none some =
    go (one_of id (rows_of f)) r (λ e. none (one_text-rows f id ∙ e)) (λ t e. some t (one_text-rows f id ∙ e))
  where
    go : (o : Option Text) (r : Result (Option ℕ) E) → (o ≡ None → r ≡ Ok None) → ((t : Text) → o ≡ Some t → TriesOne gives t r) → IfOk r (IsNumberOf o)
    go o (Err e) absent given = tt
    go None (Ok None) absent given = refl
    go None (Ok (Some n)) absent given = cc (absent refl)
    go (Some t) (Ok None) absent given = absurd (given t refl)
    go (Some t) (Ok (Some n)) absent given = let read = parses t (Ok n) (given t refl) in (read.0.0, read.0.1, read.1)
