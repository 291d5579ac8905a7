-- What bytes say is what they hold.
use Rattle.std.proofs.Common.{◌≡◌, ℕ, List, Option, Some, None, refl}
use Rattle.std.specs.Str.{IsUtf8}
use Rattle.std.proofs.lemmas.Str.{is_utf8-from_IsUtf8}
use Rattle.serde_json.specs.Data as json
use Rattle.gl_ast.specs.Grammar.{SpellsExpr}
use Rattle.gl_ast.specs.Template.{Expr}
use Rattle.gl_meaning.specs.JsonText.{read_json}
use Rattle.gl_meaning.specs.Manifest as m
use Rattle.gl_meaning.specs.ManifestOf.{manifest_of, said, in_json, read_manifest}
use Rattle.gl_meaning.specs.ManifestShape.{manifest_check}
use Rattle.gl_meaning.proofs.Limits.{after_said}
use Rattle.gl_meaning.proofs.Manifests.{manifest_is, is_manifest}
use Rattle.gl_parse.specs.ReadStmt.{expression_of}
use Rattle.gl_parse.proofs.SpellsRead.{read_spells_expr, spells_read_expr}
use Rattle.gl_manifest.specs.Holds.{Holds}
use Rattle.gl_manifest.proofs.JsonTexts.{json_text}
use Rattle.gl_manifest.proofs.Spellings.{respelled}

-- by what the parser reads of texts
abbrev Read : List ℕ → Expr → Type 0
Read text e = expression_of text ≡ Some e

read_spelled : (text : List ℕ) (e : Expr) → IsUtf8 text → Read text e → SpellsExpr text e
read_spelled text e u is = read_spells_expr text e (is_utf8-from_IsUtf8 text u) is

said_json : (bytes : List ℕ) (x : m.Manifest) (o : Option json.Data) → read_json bytes ≡ o → in_json expression_of o ≡ said x → Holds bytes x
said_json bytes x None is e = let r : ⊥ = cc in absurd r
said_json bytes x (Some d) is e =
    let a = after_said (manifest_check d) (manifest_of expression_of d) x e in
    (d, is, a.0, respelled Read SpellsExpr read_spelled d x (json_text bytes d is) (manifest_is expression_of d x a.1))

pub said_holds : (bytes : List ℕ) (x : m.Manifest) → read_manifest expression_of bytes ≡ said x → Holds bytes x
unfolding read_manifest
said_holds bytes x e = said_json bytes x (read_json bytes) refl e

pub holds_said : (bytes : List ℕ) (x : m.Manifest) → Holds bytes x → read_manifest expression_of bytes ≡ said x
unfolding read_manifest
holds_said bytes x h =
    let read = respelled SpellsExpr Read (λ text e u is. spells_read_expr text e is) h.0 x (json_text bytes h.0 h.1) h.3 in
    rw (h.1, h.2, is_manifest expression_of h.0 x read) refl

pub ruleset held = (said_holds, holds_said)
