-- What computes the reading of a manifest on bytes that are written out.
use Rattle.std.specs.Prelude.{ℕ, List, [], ◌∷◌, ◌==◌, Option, Some, None, ⊤, if◌then◌else◌}
use Rattle.std.specs.Fmt.{digits}
use Rattle.std.specs.Str.{is_utf8, chars}
use Rattle.serde_json.proofs.OnLiterals.{serde_json_on_literals}
use Rattle.gl_ast.specs.Template.{Expr, bare, argument}
use Rattle.gl_meaning.specs.JsonText.{read_json}
use Rattle.gl_meaning.specs.NameTests.{is_name, is_free_name}
use Rattle.gl_meaning.specs.Pointer.{key_step, item_step}
use Rattle.gl_meaning.specs.ManifestShape.{expression_check, arguments_check, step_member, is_step, step_check, param_check, action_member, action_check, field_check, getter_check, class_member, class_check, limit_check, modifier_check, manifest_member, manifest_check}
use Rattle.gl_meaning.specs.ManifestOf.{read_manifest, expression_at, called_in, when_in, arguments_in, set_of, call_of, step_of, texts_at, steps_in, action_of, field_of, getter_of, actions_in, fields_in, getters_in, flag_at, class_of, classes_in, limit_in, manifest_of}

-- In the cases a text that begins with `(` spells nothing, one that begins with `@` an argument, and any other a name.
abbrev pub spelled : List ℕ → Option Expr
spelled [] = None
spelled (c ∷ s) = if c == 40 then None else (if c == 64 then Some (argument s []) else Some (bare (c ∷ s) []))

unfoldable pub on_literals : ⊤
unfolding serde_json_on_literals is_utf8 chars digits read_json is_name is_free_name key_step item_step expression_check arguments_check step_member is_step step_check param_check action_member action_check field_check getter_check class_member class_check limit_check modifier_check manifest_member manifest_check read_manifest expression_at called_in when_in arguments_in set_of call_of step_of texts_at steps_in action_of field_of getter_of actions_in fields_in getters_in flag_at class_of classes_in limit_in manifest_of
on_literals = tt
