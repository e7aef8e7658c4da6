use Rattle.std.proofs.Common.{◌≡◌, ◌∙◌, ap, ap₂, subst, codes, true, IfOk, rules, List, map, string_bytes}
use Rattle.clap.specs.Words.{App, HasMatchesOf, Rule, Text, app_of, new_rule, rule_of, with_rule}
use Rattle.clap.specs.Faults.{fault_of, is_simple_and_free}
use Rattle.clap.specs.Simple.{app_of_fields}
use Rattle.clap.specs.Kinds.{FailsBy}
use Rattle.its_top.proofs.CommandLaws.{named, program, simple_and_free, unnamed, helpless, unversioned, found_by, refused_by}
use Rattle.its_top.proofs.commands.words.parsed.Goals as goal

program_is : (c : goal.After-try_get_matches_from) → app_of c.in_ok-program.program ≡ program
program_is c =
    let is_named : app_of c.disable_version_flag.result ≡ named =
    ap app_of_fields c.disable_version_flag.ensures
    ∙ ap unversioned (ap app_of_fields c.disable_help_flag.ensures
    ∙ ap helpless (ap app_of_fields c.no_binary_name.ensures ∙ ap unnamed c.new-2.ensures.app)) in
    let command_is : rule_of c.required-command.result ≡ record (new_rule (codes "command")) { required = true } =
    ap rule_of c.required-command.ensures ∙ ap (λ (r : Rule). record r { required = true }) c.new.ensures.rule in
    c.in_ok-program.ensures.shape (search rules) ∙ ap₂ with_rule
    (c.in_ok-arg.ensures.shape (search rules) ∙ ap₂ with_rule is_named command_is) c.new-number.ensures.rule

pub returns-clause-found : goal.returns-clause-found
returns-clause-found c =
    let p = program_is c in
    let ws : List Text = map string_bytes c.args.words.now in
    let parse = c.try_get_matches_from in
    found_by ws _ c.requires.plain
    (subst (λ (a : App). FailsBy (fault_of a ws) parse.result) p (parse.ensures.kinds (ap is_simple_and_free p ∙ simple_and_free)))
    (subst (λ (a : App). IfOk parse.result (HasMatchesOf a ws)) p parse.ensures.matches)

pub returns-clause-refused : goal.returns-clause-refused
returns-clause-refused c =
    let p = program_is c in
    let ws : List Text = map string_bytes c.args.words.now in
    let parse = c.try_get_matches_from in
    refused_by ws _ c.requires.plain (subst (λ (a : App). FailsBy (fault_of a ws) parse.result) p
    (parse.ensures.kinds (ap is_simple_and_free p ∙ simple_and_free)))
