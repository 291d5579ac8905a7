-- The JSON of a wire is read as a tree that has the wire.
use Rattle.std.proofs.Common.{◌≡◌, ℕ, List, [], Bool, true, false, if◌then◌else◌, Option, Some, None, Result, Ok, Err, inl, inr, refl, sym, ap, subst, ◌∙◌}
use Rattle.std.proofs.Math.Logic.{∥∥₁_elim}
use Rattle.std.proofs.lemmas.Option.{cond_some}
use Rattle.serde_json.specs.Data.{Data}
use Rattle.gl_base.specs.Answers.{◌>>=◌, Gives}
use Rattle.gl_base.specs.Texts.{bytes_of}
use Rattle.gl_ast.specs.Canon.{canonical}
use Rattle.gl_ast.specs.Grammar.{Spells, deepest_nesting}
use Rattle.gl_ast.specs.Template.{Body}
use Rattle.gl_exprs.specs.Fault as parser
use Rattle.gl_exprs.specs.declared.fault.ParseFault.{ParseFault}
use Rattle.gl_exprs.specs.declared.fault.ParseFault.TheVariants as parse
use Rattle.gl_exprs.proofs.Takings.{first_gave}
use Rattle.gl_parse.specs.ReadStmt.{template_of}
use Rattle.gl_parse.proofs.SpellsRead.{read_spells, spells_read}
use Rattle.gl_show.proofs.CanStmts.{spelled_can}
use Rattle.gl_show.proofs.SpelledCanon.{spelled_canonical}
use Rattle.gl_wire.specs.IsWire.{IsWire}
use Rattle.gl_wire.specs.Versions.{IsJsonOf}
use Rattle.gl_wire.specs.Wire.{Wire}
use Rattle.gl_wire.specs.WireOf.{wire_of}
use Rattle.gl_wire.specs.declared.version.Version.TheVariants.{First, Second}
use Rattle.gl_wirein.specs.Answer.{wire_in, Tells, fault_of}
use Rattle.gl_wirein.specs.Fault.{Fails}
use Rattle.gl_wirein.specs.Normal.{normal_body}
use Rattle.gl_wirein.specs.ReadRows.{tree_in}
use Rattle.gl_wirein.specs.Versions.{version_in, is_json_of}
use Rattle.gl_wirein.specs.declared.fault.WireFault.{WireFault}
use Rattle.gl_wirein.specs.declared.fault.WireFault.TheVariants as v
use Rattle.gl_wirein.proofs.Allowed.{can_body}
use Rattle.gl_wirein.proofs.Expressions.{goes_on}
use Rattle.gl_wirein.proofs.RowsRead.{tree_read}
use Rattle.gl_wirein.proofs.SameWire.{wire_of-normal}
use Rattle.gl_wirein.proofs.Versions.{means_json, json_told}

same_some : {A : Type 0} (x y : A) → Some x ≡ Some y → x ≡ y
same_some x y e = cc

some_none : {A : Type 0} (x : A) (o : Option A) → o ≡ None → o ≡ Some x → ⊥
some_none x o e g = let h = sym e ∙ g in cc

-- what the JSON is read as, where some bytes spell the template
read_as : (bytes : List ℕ) (b : Body) (d : Data) → Spells bytes b → IsJsonOf (wire_of b) d → tree_in d ≡ Some (normal_body [] b)
read_as bytes b d s (inl g) = let P : Data → Type 0 = λ x. tree_in x ≡ Some (normal_body [] b) in subst P g.1 (tree_read First b g.0 (spelled_can bytes b s))
read_as bytes b d s (inr e) = let P : Data → Type 0 = λ x. tree_in x ≡ Some (normal_body [] b) in subst P e (tree_read Second b tt (spelled_can bytes b s))

normal_spelled : (bytes : List ℕ) (b c : Body) (d : Data) → Spells bytes b → IsJsonOf (wire_of b) d → tree_in d ≡ Some c → Spells (bytes_of (canonical c)) c × (wire_of c ≡ wire_of b)
normal_spelled bytes b c d s e is =
    let same_tree : normal_body [] b ≡ c = same_some (normal_body [] b) c (sym (read_as bytes b d s e) ∙ is) in
    let P : Body → Type 0 = λ x. Spells (bytes_of (canonical x)) x × (wire_of x ≡ wire_of b) in
    subst P same_tree (spelled_canonical (normal_body [] b) (can_body deepest_nesting [] b (spelled_can bytes b s)), wire_of-normal b)

-- the wire that is found is that of the template
pub found_of : (bytes : List ℕ) (b : Body) (d : Data) → Spells bytes b → IsJsonOf (wire_of b) d → wire_in d ≡ Some (wire_of b)
unfolding wire_in
found_of bytes b d s e =
    let c = normal_body [] b in
    let read = read_as bytes b d s e in
    let n = normal_spelled bytes b c d s e read in
    let says : is_json_of (wire_of c) d ≡ true = json_told (wire_of c) d (subst (λ x. IsJsonOf x d) (sym n.1) e) in
    goes_on (tree_in d) c (λ b. template_of (bytes_of (canonical b)) >>= λ t. (if is_json_of (wire_of t) d then Some (wire_of t) else None)) (Some (wire_of b)) read
    (goes_on (template_of (bytes_of (canonical c))) c (λ t. if is_json_of (wire_of t) d then Some (wire_of t) else None) (Some (wire_of b)) (spells_read (bytes_of (canonical c)) c n.0)
    (rw says (ap Some n.1)))

-- and that of every wire which has the JSON
pub found_any : (w : Wire) (d : Data) → IsWire w → IsJsonOf w d → wire_in d ≡ None → ⊥
found_any w d is e none =
    ∥∥₁_elim is (λ a b. absurd a) (λ x. ∥∥₁_elim x.1 (λ a b. absurd a) (λ s.
    some_none (wire_of x.0) (wire_in d) none (found_of s.0 x.0 d s.1 (subst (λ y. IsJsonOf y d) (sym x.2) e))))

-- what is found is the wire of a template, and has the JSON
pub found_is : (d : Data) (w : Wire) → wire_in d ≡ Some w → IsWire w × IsJsonOf w d
unfolding wire_in
found_is d w e =
    let b = first_gave (tree_in d) _ w e in
    let t = first_gave (template_of (bytes_of (canonical b.0))) _ w b.2 in
    let same = cond_some (is_json_of (wire_of t.0) d) (wire_of t.0) w t.2 in
    (∣ (t.0, ∣ (bytes_of (canonical b.0), read_spells (bytes_of (canonical b.0)) t.0 t.1) ∣₁, same.1) ∣₁, subst (λ x. IsJsonOf x d) same.1 (means_json (version_in d) (wire_of t.0) d same.0))

-- no two wires of templates have one JSON
pub one_wire : (bytes other : List ℕ) (b c : Body) (d : Data) → Spells bytes b → Spells other c → IsJsonOf (wire_of b) d → IsJsonOf (wire_of c) d → wire_of b ≡ wire_of c
one_wire bytes other b c d s t e f =
    let same_tree : normal_body [] b ≡ normal_body [] c = same_some (normal_body [] b) (normal_body [] c) (sym (read_as bytes b d s e) ∙ read_as other c d t f) in
    sym (wire_of-normal b) ∙ ap wire_of same_tree ∙ wire_of-normal c

-- an answer by what is found tells whose JSON it is
pub told_by : {X : Type 0} (view : X → Wire) (d : Data) (answer : Result X WireFault) → Gives Fails view answer (wire_in d) → Tells view d answer
told_by view d (Ok x) found = (found_is d (view x) found).1
told_by view d (Err v.BadWire) found = λ w is e. found_any w d is e found
told_by view d (Err v.Memory) found = tt

-- where the JSON is read as no tree, nothing is found
pub no_tree : (d : Data) → tree_in d ≡ None → wire_in d ≡ None
unfolding wire_in
no_tree d e = rw e refl

-- nor where the tree has no spelling
nothing_spelled : (bytes : List ℕ) → ((b : Body) → Spells bytes b → ⊥) → template_of bytes ≡ None
nothing_spelled bytes none = by_case (template_of bytes) refl where
  by_case : (o : Option Body) → template_of bytes ≡ o → o ≡ None
  by_case None e = refl
  by_case (Some b) e = absurd (none b (read_spells bytes b e))

pub no_spelling : {Y : Type 0} (seen : Y → Body) (d : Data) (c : Body) (bytes : List ℕ) (f : ParseFault) → tree_in d ≡ Some c → bytes ≡ bytes_of (canonical c) → parser.Tells seen (Spells bytes) (Err f) → Fails (fault_of f) (wire_in d)
unfolding wire_in
no_spelling seen d c bytes (parse.NotInGrammar offset) read is h =
    let none : template_of (bytes_of (canonical c)) ≡ None = subst (λ bs. template_of bs ≡ None) is (nothing_spelled bytes h) in
    rw (read, none) refl
no_spelling seen d c bytes parse.Memory read is h = tt

-- where the tree is spelled, what the JSON says decides
decided : (d : Data) (c t : Body) (bytes : List ℕ) → tree_in d ≡ Some c → bytes ≡ bytes_of (canonical c) → Spells bytes t → wire_in d ≡ (if is_json_of (wire_of t) d then Some (wire_of t) else None)
unfolding wire_in
decided d c t bytes read is spells =
    let same : template_of (bytes_of (canonical c)) ≡ Some t = subst (λ bs. template_of bs ≡ Some t) is (spells_read bytes t spells) in
    rw (read, same) refl

pub found_here : (d : Data) (c t : Body) (w : Wire) (bytes : List ℕ) → tree_in d ≡ Some c → bytes ≡ bytes_of (canonical c) → Spells bytes t → w ≡ wire_of t → is_json_of w d ≡ true → wire_in d ≡ Some w
found_here d c t w bytes read is spells made says =
    let e : is_json_of (wire_of t) d ≡ true = ap (λ x. is_json_of x d) (sym made) ∙ says in
    decided d c t bytes read is spells ∙ ap (λ (k : Bool). if k then Some (wire_of t) else None) e ∙ ap Some (sym made)

pub found_nowhere : (d : Data) (c t : Body) (w : Wire) (bytes : List ℕ) → tree_in d ≡ Some c → bytes ≡ bytes_of (canonical c) → Spells bytes t → w ≡ wire_of t → is_json_of w d ≡ false → wire_in d ≡ None
found_nowhere d c t w bytes read is spells made says =
    let e : is_json_of (wire_of t) d ≡ false = ap (λ x. is_json_of x d) (sym made) ∙ says in
    decided d c t bytes read is spells ∙ ap (λ (k : Bool). if k then Some (wire_of t) else None) e
