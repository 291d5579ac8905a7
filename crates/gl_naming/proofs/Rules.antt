-- In the app of a manifest that keeps the rules no class repeats the name of a field: names that rise differ.
use Rattle.std.proofs.Common.{◌≡◌, List, [], ◌∷◌, true, true≢false, sym, ap, ◌∙◌, subst, inl, inr}
use Rattle.std.specs.Prelude.{IsTrue}
use Rattle.std.specs.Ordering.{is_lt}
use Rattle.std.proofs.lemmas.Cmp.{nat_list_cmp_total, tied_itself}
use Rattle.gl_base.specs.Texts.{Text, bytes_of, text_less}
use Rattle.gl_ast.specs.Template.{Body}
use Rattle.gl_meaning.specs.App.{Class}
use Rattle.gl_meaning.specs.Known.{Among}
use Rattle.gl_meaning.specs.Laws.{NoRepeat}
use Rattle.gl_meaning.specs.Manifest.{ClassEntry, classes_of}
use Rattle.gl_meaning.specs.ManifestRules.{Each}
use Rattle.gl_meaning.specs.Order.{Rise, names_of, ClassRises}
use Rattle.gl_naming.specs.Exist.{RulesDiffer}

-- no text is less than itself
not_later : (x : Text) (ts : List Text) → Each (λ u. IsTrue (text_less x u)) ts → Among x ts → ⊥
not_later x [] less m = m
not_later x (u ∷ ts) less (inl e) = true≢false (sym (subst (λ v. text_less x v ≡ true) (sym e) less.0) ∙ ap is_lt (tied_itself nat_list_cmp_total (bytes_of x)))
not_later x (u ∷ ts) less (inr m) = not_later x ts less.1 m

rising_differ : (ts : List Text) → Rise ts → NoRepeat ts
rising_differ [] r = tt
rising_differ (x ∷ ts) r = (not_later x ts r.0, rising_differ ts r.1)

pub entries_differ : (cs : List ClassEntry) (templates : List Body) → Each ClassRises cs → (c : Class) → Among c (classes_of cs templates) → NoRepeat (names_of c.fields)
entries_differ [] templates h c m = absurd m
entries_differ (e ∷ cs) [] h c (inl i) = subst (λ (d : Class). NoRepeat (names_of d.fields)) (sym i) (rising_differ (names_of e.fields) h.0.fields)
entries_differ (e ∷ cs) [] h c (inr m) = entries_differ cs [] h.1 c m
entries_differ (e ∷ cs) (b ∷ templates) h c (inl i) = subst (λ (d : Class). NoRepeat (names_of d.fields)) (sym i) (rising_differ (names_of e.fields) h.0.fields)
entries_differ (e ∷ cs) (b ∷ templates) h c (inr m) = entries_differ cs templates h.1 c m

pub rules_differ : RulesDiffer
rules_differ m templates h = entries_differ m.classes templates h.order.each
