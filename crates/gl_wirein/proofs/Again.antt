-- What is shown or written, and read again.
use Rattle.std.proofs.Common.{◌≡◌, ℕ, List, Some, Result, Ok, Err, IfOk, IfErr, refl, sym, ap, subst, ◌∙◌}
use Rattle.serde_json.specs.Data.{Data}
use Rattle.gl_base.specs.Texts.{bytes_of}
use Rattle.gl_ast.specs.Canon.{canonical}
use Rattle.gl_ast.specs.Grammar.{Spells}
use Rattle.gl_ast.specs.Template.{Body}
use Rattle.gl_parse.specs.ReadStmt.{template_of}
use Rattle.gl_parse.proofs.SpellsRead.{spells_read, spells_one}
use Rattle.gl_show.proofs.CanStmts.{canonical_spells}
use Rattle.gl_wire.specs.IsWire.{IsWire}
use Rattle.gl_wire.specs.Versions.{IsJsonOf}
use Rattle.gl_wire.specs.Wire.{Wire}
use Rattle.gl_wire.specs.WireOf.{wire_of}
use Rattle.gl_wirein.specs.Again.{IsTemplateWire}
use Rattle.gl_wirein.specs.Answer.{Tells}
use Rattle.gl_wirein.specs.declared.fault.WireFault.{WireFault}
use Rattle.gl_wirein.specs.declared.fault.WireFault.TheVariants as v
use Rattle.gl_wirein.proofs.Wires.{one_wire}

pub shown_read : (bytes : List ℕ) (b : Body) → Spells bytes b → template_of (bytes_of (canonical b)) ≡ Some b
shown_read bytes b s = spells_read (bytes_of (canonical b)) b (canonical_spells bytes b s)

pub shown_only : (bytes : List ℕ) (b c : Body) → Spells bytes b → Spells (bytes_of (canonical b)) c → c ≡ b
shown_only bytes b c s t = spells_one (bytes_of (canonical b)) c b t (canonical_spells bytes b s)

same_tree : (b c : Body) → Some c ≡ Some b → c ≡ b
same_tree b c e = cc

pub shown_wire : (bytes : List ℕ) (b c : Body) → Spells bytes b → template_of (bytes_of (canonical b)) ≡ Some c → wire_of c ≡ wire_of b
shown_wire bytes b c s e = ap wire_of (same_tree b c (sym e ∙ shown_read bytes b s))

pub written_wire : (bytes : List ℕ) (b : Body) (d : Data) (answer : Result Wire WireFault) → Spells bytes b → IsJsonOf (wire_of b) d → IfOk answer IsTemplateWire → Tells (λ w. w) d answer → IfOk answer (λ w. w ≡ wire_of b)
written_wire bytes b d (Ok w) s is of_template tells =
    let of_tree : IsJsonOf (wire_of of_template.1) d = subst (λ x. IsJsonOf x d) (sym of_template.3) tells in
    sym of_template.3 ∙ one_wire of_template.0 bytes of_template.1 b d of_template.2 s of_tree is
written_wire bytes b d (Err e) s is of_template tells = tt

-- a template's wire is one
is_wire : (bytes : List ℕ) (b : Body) → Spells bytes b → IsWire (wire_of b)
is_wire bytes b s = ∣ (b, ∣ (bytes, s) ∣₁, refl) ∣₁

pub written_fault : (bytes : List ℕ) (b : Body) (d : Data) (answer : Result Wire WireFault) → Spells bytes b → IsJsonOf (wire_of b) d → Tells (λ w. w) d answer → IfErr answer (λ e. e ≡ v.Memory)
written_fault bytes b d (Ok w) s is tells = tt
written_fault bytes b d (Err v.BadWire) s is tells = absurd (tells (wire_of b) (is_wire bytes b s) is)
written_fault bytes b d (Err v.Memory) s is tells = refl
