use Rattle.std.proofs.Common.{◌≡◌, List, Some, None, map, refl, rules}
use Rattle.std.specs.Str.{chars}
use Rattle.gl_base.specs.Texts.{Text}
use Rattle.gl_base.proofs.Taken.{takes_nothing}
use Rattle.gl_commands.specs.Command.{Command, run_command, show_command, wire_command, check_command, migrate_command, sample_command, command_of}
use Rattle.gl_commands.proofs.Outputs.{command_says, usage_output, command_fetches, nothing_held, left_alone}
use Rattle.gl_run.proofs.top.attempt.Goals as goal

pub returns-in-Some-Run-clause-told : goal.returns-in-Some-Run-clause-told
returns-in-Some-Run-clause-told g c = λ files e.
    let words : List Text = map (λ w. chars w.now) c.args.words.now in
    let command : Command = run_command c.in-Some-Run.told (chars c.in-Some-Run.manifest.now) (chars c.in-Some-Run.script.now) in
    let is : command_of words ≡ Some command = search rules in
    rw (command_says words files command is) (c.play_app.ensures.told files e)

pub returns-in-Some-Run-clause-tells : goal.returns-in-Some-Run-clause-tells
returns-in-Some-Run-clause-tells g c = λ files e.
    let words : List Text = map (λ w. chars w.now) c.args.words.now in
    let command : Command = run_command c.in-Some-Run.told (chars c.in-Some-Run.manifest.now) (chars c.in-Some-Run.script.now) in
    let is : command_of words ≡ Some command = search rules in
    rw (command_says words files command is, command_fetches words files command is) (c.play_app.ensures.tells files e)

pub returns-in-Some-Run-clause-holds : goal.returns-in-Some-Run-clause-holds
returns-in-Some-Run-clause-holds g c = λ files e.
    let words : List Text = map (λ w. chars w.now) c.args.words.now in
    let command : Command = run_command c.in-Some-Run.told (chars c.in-Some-Run.manifest.now) (chars c.in-Some-Run.script.now) in
    let is : command_of words ≡ Some command = search rules in
    rw is (c.play_app.ensures.holds files e)

pub returns-in-Some-Run-clause-others : goal.returns-in-Some-Run-clause-others
returns-in-Some-Run-clause-others g c = λ never.
    let words : List Text = map (λ w. chars w.now) c.args.words.now in
    let command : Command = run_command c.in-Some-Run.told (chars c.in-Some-Run.manifest.now) (chars c.in-Some-Run.script.now) in
    let is : command_of words ≡ Some command = search rules in
    absurd (never (rw is tt))

pub returns-in-Some-Run-clause-limit : goal.returns-in-Some-Run-clause-limit
returns-in-Some-Run-clause-limit g c = λ deep.
    let words : List Text = map (λ w. chars w.now) c.args.words.now in
    let command : Command = run_command c.in-Some-Run.told (chars c.in-Some-Run.manifest.now) (chars c.in-Some-Run.script.now) in
    let is : command_of words ≡ Some command = search rules in
    rw is tt

pub returns-in-Some-Show-clause-told : goal.returns-in-Some-Show-clause-told
returns-in-Some-Show-clause-told g c = λ files e.
    let words : List Text = map (λ w. chars w.now) c.args.words.now in
    let command : Command = show_command (chars c.in-Some-Show.template.now) in
    let is : command_of words ≡ Some command = search rules in
    rw (command_says words files command is) (c.show_template.ensures.told files e)

pub returns-in-Some-Show-clause-tells : goal.returns-in-Some-Show-clause-tells
returns-in-Some-Show-clause-tells g c = λ files e.
    let words : List Text = map (λ w. chars w.now) c.args.words.now in
    let command : Command = show_command (chars c.in-Some-Show.template.now) in
    let is : command_of words ≡ Some command = search rules in
    rw (command_says words files command is, command_fetches words files command is) (c.show_template.ensures.tells files e)

pub returns-in-Some-Wire-clause-told : goal.returns-in-Some-Wire-clause-told
returns-in-Some-Wire-clause-told g c = λ files e.
    let words : List Text = map (λ w. chars w.now) c.args.words.now in
    let command : Command = wire_command (chars c.in-Some-Wire.template.now) in
    let is : command_of words ≡ Some command = search rules in
    rw (command_says words files command is) (c.wire_template.ensures.told files e)

pub returns-in-Some-Wire-clause-tells : goal.returns-in-Some-Wire-clause-tells
returns-in-Some-Wire-clause-tells g c = λ files e.
    let words : List Text = map (λ w. chars w.now) c.args.words.now in
    let command : Command = wire_command (chars c.in-Some-Wire.template.now) in
    let is : command_of words ≡ Some command = search rules in
    rw (command_says words files command is, command_fetches words files command is) (c.wire_template.ensures.tells files e)

pub returns-in-Some-Check-clause-told : goal.returns-in-Some-Check-clause-told
returns-in-Some-Check-clause-told g c = λ files e.
    let words : List Text = map (λ w. chars w.now) c.args.words.now in
    let command : Command = check_command (chars c.in-Some-Check.manifest.now) in
    let is : command_of words ≡ Some command = search rules in
    rw (command_says words files command is) (c.check_app.ensures.told files e)

pub returns-in-Some-Check-clause-tells : goal.returns-in-Some-Check-clause-tells
returns-in-Some-Check-clause-tells g c = λ files e.
    let words : List Text = map (λ w. chars w.now) c.args.words.now in
    let command : Command = check_command (chars c.in-Some-Check.manifest.now) in
    let is : command_of words ≡ Some command = search rules in
    rw (command_says words files command is, command_fetches words files command is) (c.check_app.ensures.tells files e)

pub returns-in-Some-Migrate-clause-told : goal.returns-in-Some-Migrate-clause-told
returns-in-Some-Migrate-clause-told g c = λ files e.
    let words : List Text = map (λ w. chars w.now) c.args.words.now in
    let command : Command = migrate_command (chars c.in-Some-Migrate.file.now) in
    let is : command_of words ≡ Some command = search rules in
    rw (command_says words files command is) (c.migrate_wire.ensures.told files e)

pub returns-in-Some-Migrate-clause-tells : goal.returns-in-Some-Migrate-clause-tells
returns-in-Some-Migrate-clause-tells g c = λ files e.
    let words : List Text = map (λ w. chars w.now) c.args.words.now in
    let command : Command = migrate_command (chars c.in-Some-Migrate.file.now) in
    let is : command_of words ≡ Some command = search rules in
    rw (command_says words files command is, command_fetches words files command is) (c.migrate_wire.ensures.tells files e)

pub returns-in-Some-Sample-clause-told : goal.returns-in-Some-Sample-clause-told
returns-in-Some-Sample-clause-told g c = λ files e.
    let words : List Text = map (λ w. chars w.now) c.args.words.now in
    let command : Command = sample_command c.in-Some-Sample.rows in
    let is : command_of words ≡ Some command = search rules in
    rw (command_says words files command is) (c.sum_sample.ensures.told files)

pub returns-in-Some-Sample-clause-tells : goal.returns-in-Some-Sample-clause-tells
returns-in-Some-Sample-clause-tells g c = λ files e.
    let words : List Text = map (λ w. chars w.now) c.args.words.now in
    let command : Command = sample_command c.in-Some-Sample.rows in
    let is : command_of words ≡ Some command = search rules in
    rw (command_says words files command is, command_fetches words files command is) (c.sum_sample.ensures.tells files)

pub returns-in-Some-Sample-clause-holds : goal.returns-in-Some-Sample-clause-holds
returns-in-Some-Sample-clause-holds g c = λ files e.
    let words : List Text = map (λ w. chars w.now) c.args.words.now in
    let command : Command = sample_command c.in-Some-Sample.rows in
    let is : command_of words ≡ Some command = search rules in
    rw is c.sum_sample.ensures.holds

pub returns-in-Some-Sample-clause-others : goal.returns-in-Some-Sample-clause-others
returns-in-Some-Sample-clause-others g c = λ never.
    let words : List Text = map (λ w. chars w.now) c.args.words.now in
    let command : Command = sample_command c.in-Some-Sample.rows in
    let is : command_of words ≡ Some command = search rules in
    absurd (never (rw is tt))

pub returns-in-Some-Sample-clause-limit : goal.returns-in-Some-Sample-clause-limit
returns-in-Some-Sample-clause-limit g c = λ deep.
    let words : List Text = map (λ w. chars w.now) c.args.words.now in
    let command : Command = sample_command c.in-Some-Sample.rows in
    let is : command_of words ≡ Some command = search rules in
    rw is tt

pub returns-in-None-clause-told : goal.returns-in-None-clause-told
returns-in-None-clause-told g c = λ files e.
    let words : List Text = map (λ w. chars w.now) c.args.words.now in
    let none : command_of words ≡ None = search rules in
    rw (usage_output words files none) (refl, takes_nothing _)

pub returns-in-None-clause-tells : goal.returns-in-None-clause-tells
returns-in-None-clause-tells g c = λ files e.
    let words : List Text = map (λ w. chars w.now) c.args.words.now in
    let none : command_of words ≡ None = search rules in
    rw (usage_output words files none) refl

pub returns-in-Some-Show-clause-holds : goal.returns-in-Some-Show-clause-holds
returns-in-Some-Show-clause-holds g c = λ files e.
    let words : List Text = map (λ w. chars w.now) c.args.words.now in
    let command : Command = show_command (chars c.in-Some-Show.template.now) in
    let is : command_of words ≡ Some command = search rules in
    rw is (nothing_held c.show_template.result)

pub returns-in-Some-Wire-clause-holds : goal.returns-in-Some-Wire-clause-holds
returns-in-Some-Wire-clause-holds g c = λ files e.
    let words : List Text = map (λ w. chars w.now) c.args.words.now in
    let command : Command = wire_command (chars c.in-Some-Wire.template.now) in
    let is : command_of words ≡ Some command = search rules in
    rw is (nothing_held c.wire_template.result)

pub returns-in-Some-Check-clause-holds : goal.returns-in-Some-Check-clause-holds
returns-in-Some-Check-clause-holds g c = λ files e.
    let words : List Text = map (λ w. chars w.now) c.args.words.now in
    let command : Command = check_command (chars c.in-Some-Check.manifest.now) in
    let is : command_of words ≡ Some command = search rules in
    rw is (nothing_held c.check_app.result)

pub returns-in-Some-Show-clause-kept : goal.returns-in-Some-Show-clause-kept
returns-in-Some-Show-clause-kept g c = left_alone c.show_template.result refl

pub returns-in-Some-Show-clause-limit : goal.returns-in-Some-Show-clause-limit
returns-in-Some-Show-clause-limit g c = λ deep. absurd (c.show_template.ensures.limit deep)

pub returns-in-Some-Wire-clause-kept : goal.returns-in-Some-Wire-clause-kept
returns-in-Some-Wire-clause-kept g c = left_alone c.wire_template.result refl

pub returns-in-Some-Wire-clause-limit : goal.returns-in-Some-Wire-clause-limit
returns-in-Some-Wire-clause-limit g c = λ deep. absurd (c.wire_template.ensures.limit deep)

pub returns-in-Some-Check-clause-kept : goal.returns-in-Some-Check-clause-kept
returns-in-Some-Check-clause-kept g c = left_alone c.check_app.result refl

pub returns-in-Some-Check-clause-limit : goal.returns-in-Some-Check-clause-limit
returns-in-Some-Check-clause-limit g c = λ deep. absurd (c.check_app.ensures.limit deep)
