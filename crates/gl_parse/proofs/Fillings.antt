-- Reading blocks that are passed one after another.
use Rattle.std.specs.Prelude.{if◌then◌else◌}
use Rattle.std.proofs.Common.{◌≡◌, ◌<◌, List, [], ◌∷◌, ◌++◌, Bool, true, false, not, ◌&&◌, Some, None, length, refl, sym, ap, ◌∙◌, arith, append_assoc}
use Rattle.std.proofs.lemmas.List.{map-append}
use Rattle.gl_base.specs.Answers.{◌>>=◌}
use Rattle.gl_base.specs.Names.{has_text}
use Rattle.gl_base.specs.Texts.{Text}
use Rattle.gl_ast.specs.Grammar.{after_gaps, are_new}
use Rattle.gl_ast.specs.Template.{Body, Slots, slots_of}
use Rattle.gl_ast.specs.declared.token.Token.{Token}
use Rattle.gl_exprs.specs.Take.{Taken, read_many, with_front}
use Rattle.gl_exprs.proofs.Many.{IsLeft, many_start, many_go, many_fail, many_end}
use Rattle.gl_parse.proofs.Gaps.{gaps_leave}
use Rattle.gl_parse.specs.ReadStmt.{Reader, stands_slot, stands_next, read_next, names_in, read_slot, read_slots}

abbrev Named : Type 0
Named = Text × (List Text × Body)

-- names that are new one after another
pub new_more : (taken xs ys : List Text) → are_new taken (xs ++ ys) ≡ (are_new taken xs && are_new (taken ++ xs) ys)
new_more taken [] ys = ap (λ l. are_new l ys) (sym (no_more taken)) where
  no_more : (l : List Text) → l ++ [] ≡ l
  no_more [] = refl
  no_more (x ∷ l) = ap (λ m. x ∷ m) (no_more l)
new_more taken (x ∷ xs) ys =
    ap (λ b. not (has_text x taken) && b) (new_more (taken ++ x ∷ []) xs ys ∙ ap (λ l. are_new (taken ++ x ∷ []) xs && are_new l ys) (append_assoc taken (x ∷ []) xs))
    ∙ both_ways (not (has_text x taken)) (are_new (taken ++ x ∷ []) xs) (are_new (taken ++ x ∷ xs) ys) where
      both_ways : (a b c : Bool) → (a && (b && c)) ≡ ((a && b) && c)
      both_ways true b c = refl
      both_ways false b c = refl

one_new : (taken : List Text) (n : Text) → are_new taken (n ∷ []) ≡ not (has_text n taken)
one_new taken n = by_test (not (has_text n taken)) where
  by_test : (b : Bool) → (b && true) ≡ b
  by_test true = refl
  by_test false = refl

-- These blocks were read, each of another name, and gaps after them; what is left to read gives all with them.
abbrev pub AreLeft : Reader Body → List Named → List Text → List Token → List Token → Type 0
AreLeft inner done names ts all =
    (us : List Token) × (names ≡ names_in done) × (are_new [] names ≡ true) × (ts ≡ after_gaps us) × IsLeft stands_next (read_next inner) done us (read_many stands_next (read_next inner) (length all) all)

pub slots_start : (inner : Reader Body) (done : List Named) (names : List Text) (ts all : List Token) → done ≡ [] → names ≡ [] → ts ≡ after_gaps all → AreLeft inner done names ts all
slots_start inner done names ts all e f g = rw (e, f) (all, refl, refl, g, many_start stands_next (read_next inner) all)

here : (inner : Reader Body) (ts us : List Token) → ts ≡ after_gaps us → read_slot inner ts ≡ read_next inner us
here inner ts us e = ap (read_slot inner) e

new_name : (names : List Text) (n : Text) → are_new [] names ≡ true → has_text n names ≡ false → are_new [] (names ++ n ∷ []) ≡ true
new_name names n e f = new_more [] names (n ∷ []) ∙ ap (λ b. b && are_new names (n ∷ [])) e ∙ one_new names n ∙ ap not f

pub slots_go : (inner : Reader Body) (done more : List Named) (names added : List Text) (ts vs ws all : List Token) (x : Named) → stands_slot ts ≡ true → read_slot inner ts ≡ Some (x, vs) → length vs < length ts → has_text x.0 names ≡ false → added ≡ names ++ x.0 ∷ [] → more ≡ done ++ x ∷ [] → ws ≡ after_gaps vs
    → AreLeft inner done names ts all → AreLeft inner more added ws all
slots_go inner done more names added ts vs ws all x going is less free e f g (us, named, new, h, left) =
    let starts : stands_next us ≡ true = ap stands_slot (sym h) ∙ going in
    let reads : read_next inner us ≡ Some (x, vs) = sym (here inner ts us h) ∙ is in
    let l = gaps_leave us in
    let k = ap length h in (
      vs,
      e ∙ ap (λ y. y ++ x.0 ∷ []) named ∙ sym (map-append (λ (s : Named). s.0) done (x ∷ [])) ∙ ap names_in (sym f),
      ap (are_new []) e ∙ new_name names x.0 new free,
      g,
      rw f (many_go stands_next (read_next inner) done us (x, vs) _ starts reads (omega (arith, less, l, k)) left),
    )

pub slots_fail : (inner : Reader Body) (done : List Named) (names : List Text) (ts all : List Token) → stands_slot ts ≡ true → AreLeft inner done names ts all → read_slot inner ts ≡ None → read_slots inner all ≡ None
unfolding read_slots
slots_fail inner done names ts all going (us, named, new, h, left) is =
    let starts : stands_next us ≡ true = ap stands_slot (sym h) ∙ going in
    rw (many_fail stands_next (read_next inner) done us _ starts left (sym (here inner ts us h) ∙ is)) refl

pub slots_end : (inner : Reader Body) (done : List Named) (names : List Text) (ts all : List Token) → stands_slot ts ≡ false → AreLeft inner done names ts all → read_slots inner all ≡ Some (slots_of done, ts)
unfolding read_slots
slots_end inner done names ts all ends (us, named, new, h, left) =
    let stops : stands_next us ≡ false = ap stands_slot (sym h) ∙ ends in
    rw (many_end stands_next (read_next inner) done us _ stops left, ap (are_new []) (sym named) ∙ new) (ap (λ l. Some (slots_of done, l)) (sym h))

-- a name that stands twice
front_new : (a b : Bool) → a ≡ false → (a && b) ≡ false
front_new a b e = ap (λ x. x && b) e

twice : (names : List Text) (n : Text) → are_new [] names ≡ true → has_text n names ≡ true → are_new [] (names ++ n ∷ []) ≡ false
twice names n e f = new_more [] names (n ∷ []) ∙ ap (λ b. b && are_new names (n ∷ [])) e ∙ one_new names n ∙ ap not f

refused : (o : Taken (List Named)) (front : List Named) → are_new [] (names_in front) ≡ false → ◌>>=◌ {B = Slots × List Token} (with_front front o) (λ ss. (if are_new [] (names_in ss.0) then Some (slots_of ss.0, after_gaps ss.1) else None)) ≡ None
refused None front e = refl
refused (Some more) front e =
    let all : are_new [] (names_in (front ++ more.0)) ≡ false =
    ap (are_new []) (map-append (λ (s : Named). s.0) front more.0) ∙ new_more [] (names_in front) (names_in more.0) ∙ front_new (are_new [] (names_in front)) (are_new (names_in front) (names_in more.0)) e in
    rw all refl

pub slots_twice : (inner : Reader Body) (done : List Named) (names : List Text) (ts vs all : List Token) (x : Named) → stands_slot ts ≡ true → read_slot inner ts ≡ Some (x, vs) → length vs < length ts → has_text x.0 names ≡ true
    → AreLeft inner done names ts all → read_slots inner all ≡ None
unfolding read_slots
slots_twice inner done names ts vs all x going is less taken (us, named, new, h, left) =
    let starts : stands_next us ≡ true = ap stands_slot (sym h) ∙ going in
    let reads : read_next inner us ≡ Some (x, vs) = sym (here inner ts us h) ∙ is in
    let l = gaps_leave us in
    let k = ap length h in
    let go = many_go stands_next (read_next inner) done us (x, vs) _ starts reads (omega (arith, less, l, k)) left in
    let again : are_new [] (names_in (done ++ x ∷ [])) ≡ false =
    ap (are_new []) (map-append (λ (s : Named). s.0) done (x ∷ []) ∙ ap (λ y. y ++ x.0 ∷ []) (sym named)) ∙ twice names x.0 new taken in
    ap (λ o. ◌>>=◌ {B = Slots × List Token} o (λ ss. (if are_new [] (names_in ss.0) then Some (slots_of ss.0, after_gaps ss.1) else None))) (sym go.2) ∙ refused (read_many stands_next (read_next inner) go.0 vs) (done ++ x ∷ []) again

-- what a set tells
pub told_free : (told taken : Bool) → told ≡ not taken → told ≡ true → taken ≡ false
told_free told true e f = cc
told_free told false e f = refl

pub told_taken : (told taken : Bool) → told ≡ not taken → told ≡ false → taken ≡ true
told_taken told true e f = refl
told_taken told false e f = cc
