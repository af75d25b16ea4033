-- Matches that clap finds for a command whose shape is known.
use Rattle.std.proofs.Common.{◌≡◌, List, [], Option, true, false, refl, sym, ap, ◌∙◌, codes, option_map, unwrap_or}
use Rattle.std.specs.Prelude.{bytes_eq}
use Rattle.std.specs.Option.{option_map_or}
use Rattle.clap.specs.Words.{App, HasMatchesOf, Text, fault_of, is_simple, is_simple_and_free, subcommand_of, subcommand_rows_of, takes, first_value, matched_of, raw_values, rows_of}
use Rattle.clap.proofs.OnLiterals.{clap_on_literals}
use Rattle.clap.specs.declared.parser.matches.ArgMatches.{ArgMatches}
use Rattle.clap.specs.declared.parser.matches.Found.{Found}
use Rattle.clap.proofs.WalkLemmas.{first_value-rows, raw_values-rows}
use Rattle.cg_tool.specs.Job.{program, subcommand_in, are_taken, faults_of, files_in, is_cut_in}

pub program_is_simple : is_simple program ≡ true
unfolding program clap_on_literals
program_is_simple = refl

pub program_is_free : is_simple_and_free program ≡ true
unfolding program clap_on_literals
program_is_free = refl

pub met_by : (a : App) (words : List Text) (m : ArgMatches) → a ≡ program → HasMatchesOf a words m → subcommand_rows_of m ≡ subcommand_in words
unfolding subcommand_in
met_by a words m e h = (h (ap is_simple e ∙ program_is_simple)).1 ∙ ap (λ (x : App). subcommand_of x words) e

pub taken_by : (a : App) (words : List Text) → a ≡ program → are_taken words ≡ true → takes a words ≡ true
unfolding are_taken
taken_by a words e h = ap (λ (x : App). takes x words) e ∙ h

pub faults_by : (a : App) (words : List Text) → a ≡ program → fault_of a words ≡ faults_of words
unfolding faults_of
faults_by a words e = ap (λ (x : App). fault_of x words) e

pub free_by : (a : App) → a ≡ program → is_simple_and_free a ≡ true
free_by a e = ap is_simple_and_free e ∙ program_is_free

pub files_from : (f : Found) (r : Option (List Text)) → r ≡ option_map raw_values (matched_of f (codes "file")) → files_in (rows_of f) ≡ unwrap_or r []
files_from f r e = ap (λ (o : Option (List Text)). unwrap_or o []) (sym (raw_values-rows f (codes "file")) ∙ sym e)

pub cut_from : (f : Found) (r : Option Text) → r ≡ first_value f (codes "cut") → is_cut_in (rows_of f) ≡ option_map_or (λ (value : Text). bytes_eq value (codes "true")) r false
cut_from f r e = ap (λ (o : Option Text). option_map_or (λ (value : Text). bytes_eq value (codes "true")) o false) (sym (first_value-rows f (codes "cut")) ∙ sym e)
