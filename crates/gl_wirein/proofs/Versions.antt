-- JSON is that of a wire just where the code says so.
use Rattle.std.proofs.Common.{◌≡◌, true, inl, inr, refl, sym, ap, subst, ◌∙◌}
use Rattle.serde_json.specs.Data.{Data}
use Rattle.gl_value.proofs.Sameness.{both_left, both_right, both_true}
use Rattle.gl_wire.specs.Json.{json_in}
use Rattle.gl_wire.specs.Unnamed.{is_unnamed}
use Rattle.gl_wire.specs.Versions.{IsJsonIn, IsJsonOf}
use Rattle.gl_wire.specs.Wire.{Wire}
use Rattle.gl_wire.specs.declared.version.Version.{Version}
use Rattle.gl_wire.specs.declared.version.Version.TheVariants.{First, Second}
use Rattle.gl_wire.proofs.NoFloats.{no_float}
use Rattle.gl_wirein.specs.Same.{same}
use Rattle.gl_wirein.specs.Versions.{version_in, is_json_in, is_json_of}
use Rattle.gl_wirein.proofs.Sameness.{same_means, same_itself}

pub means_json : (version : Version) (w : Wire) (d : Data) → is_json_in version w d ≡ true → IsJsonOf w d
means_json First w d h = inl (both_left (is_unnamed w) (same (json_in First w) d) h, same_means (json_in First w) d (both_right (is_unnamed w) (same (json_in First w) d) h))
means_json Second w d h = inr (same_means (json_in Second w) d h)

-- JSON says its version
version_said : (version : Version) (w : Wire) → version_in (json_in version w) ≡ version
unfolding version_in json_in
version_said First w = refl
version_said Second w = refl

itself_in : (version : Version) (w : Wire) (d : Data) → IsJsonIn version w d → is_json_in version w d ≡ true
itself_in First w d g = both_true (is_unnamed w) (same (json_in First w) d) g.0 (subst (λ x. same (json_in First w) x ≡ true) g.1 (same_itself (json_in First w) (no_float First w)))
itself_in Second w d e = subst (λ x. same (json_in Second w) x ≡ true) e (same_itself (json_in Second w) (no_float Second w))

said_in : (version : Version) (w : Wire) (d : Data) → json_in version w ≡ d → IsJsonIn version w d → is_json_of w d ≡ true
said_in version w d e g = ap (λ x. is_json_in x w d) (ap version_in (sym e) ∙ version_said version w) ∙ itself_in version w d g

pub json_told : (w : Wire) (d : Data) → IsJsonOf w d → is_json_of w d ≡ true
json_told w d (inl g) = said_in First w d g.1 g
json_told w d (inr e) = said_in Second w d e e
