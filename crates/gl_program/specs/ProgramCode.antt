-- How the logic tells two programs and two classes' programs apart: each is several lists.
use Rattle.std.specs.Prelude.{ℕ, ℤ, List, refl}
use Rattle.std.specs.Coded.{Coded, code_by, coded×, coded_list, coded_ℕ, coded_ℤ}
use Rattle.gl_base.specs.Texts.{Text}
use Rattle.gl_program.specs.ClassProgram.{ClassProgram}
use Rattle.gl_program.specs.Program.{Program}

abbrev pub texts_code : Coded (List Text)
texts_code = coded_list (coded_list coded_ℕ)

abbrev pub ProgramParts : Type 0
ProgramParts = (List ℕ × List Text) × (List Text × List ℤ)

abbrev pub program_code : Coded Program
program_code =
    code_by ProgramParts (coded× (coded× (coded_list coded_ℕ) texts_code) (coded× texts_code (coded_list coded_ℤ)))
    (λ p. ((p.words, p.texts), (p.names, p.ints))) (λ x. record { words = x.0.0; texts = x.0.1; names = x.1.0; ints = x.1.1 }) (λ _. refl)

abbrev pub class_program_code : Coded ClassProgram
class_program_code =
    code_by (Program × (List Program × List Program)) (coded× program_code (coded× (coded_list program_code) (coded_list program_code)))
    (λ c. (c.template, (c.getters, c.actions))) (λ x. record { template = x.0; getters = x.1.0; actions = x.1.1 }) (λ _. refl)
