-- The statements of a body, one after another.
use Rattle.std.proofs.Common.{◌≡◌, ◌≤◌, ◌<◌, ℕ, suc, ◌+◌, List, [], ◌∷◌, ◌++◌, map, take, drop, set, length, get_or, sym, ◌∙◌, ap, subst, add-one, append-nil, append_assoc, arith}
use Rattle.std.proofs.lemmas.List.{drop_all, drop-set-lt, take_all, take_more_set}
use Rattle.gl_base.proofs.Lists.{drop_item}
use Rattle.gl_meaning.specs.Path.{at, Path}
use Rattle.gl_opc.specs.declared.app.App.{App}
use Rattle.gl_plain.specs.Naming.{by_number}
use Rattle.gl_machine.specs.Code.{Code as PlainCode, Codes as PlainCodes, no_codes, code_and}
use Rattle.gl_machine.specs.Outcome.{ok, on_ok}
use Rattle.gl_guards.specs.Along.{along_code_as, along_codes_as}
use Rattle.gl_vm.specs.View.{Tables, state_of}
use Rattle.gl_vm.specs.declared.vm.Vm.{Vm}
use Rattle.gl_code.specs.CodeView.{all_codes, seen_code, seen_codes}
use Rattle.gl_code.specs.Cells.{CellList}
use Rattle.gl_code.specs.declared.code.Code.{Code}
use Rattle.gl_code.specs.declared.code.Codes.{Codes}
use Rattle.gl_code.specs.declared.fault.VmFault.{VmFault}
use Rattle.gl_code.proofs.CodeNests.{body_is}
use Rattle.gl_code.specs.Renewing.{Renewal, Renews, RenewFails}
use Rattle.gl_update.proofs.Renewing.{renews_same, renews_as, renews_then, renews_still, renews_in, fails_same, fails_first, fails_then, fails_in}

abbrev pub seen_all : List Code → Tables → PlainCodes
seen_all xs n = all_codes (map (seen_code n) xs)

-- the statements of a body, by their list
pub all_is : (all : Codes) (items : List Code) → items ≡ all.list.items → (n : Tables) → seen_all items n ≡ seen_codes n all
all_is all items e n = ap (λ xs. seen_all xs n) e ∙ sym (body_is n all)

module _ (a : App) (cells : CellList) (left : ℕ) (p : Path) where
  -- the update of one statement, of those from a place on, and of a body
  abbrev pub One : Path → Code → Renewal PlainCode
  One q x = λ n run. along_code_as by_number run left q (seen_code n x)

  abbrev pub Rest : ℕ → List Code → Renewal PlainCodes
  Rest i xs = λ n run. along_codes_as by_number run left p i (seen_all xs n)

  abbrev pub All : Codes → Renewal PlainCodes
  All x = λ n run. along_codes_as by_number run left p 0 (seen_codes n x)

  -- Whatever the rest gives, the whole gives.
  pub record Walks (all : Codes) (vm0 : Vm) (items : List Code) (i : ℕ) (vm : Vm) : Type 0 where
    pub goes : (ys : List Code) (v : Vm) → Renews a cells (Rest i (drop i items)) vm (seen_all ys) v → Renews a cells (All all) vm0 (seen_all (take i items ++ ys)) v
    pub stops : (e : VmFault) → RenewFails a cells (Rest i (drop i items)) vm e → RenewFails a cells (All all) vm0 e

  pub walks_begin : (all : Codes) (items : List Code) (vm : Vm) → items ≡ all.list.items → Walks all vm items 0 vm
  walks_begin all items vm e = record {
    goes = λ ys v r. renews_same a cells (Rest 0 items) (All all) (seen_all ys) vm v (λ n run u. ap (λ cs. along_codes_as by_number run left p 0 cs (state_of n vm u)) (all_is all items e n)) r;
    stops = λ f r. fails_same a cells (Rest 0 items) (All all) vm f (λ n run u. ap (λ cs. along_codes_as by_number run left p 0 cs (state_of n vm u)) (all_is all items e n)) r;
  }

  module _ (items : List Code) (i : ℕ) (x : Code) (lt : i < length items) (is : x ≡ get_or items i x) (q : Path) (here : q ≡ at i ∷ p) where
    abbrev more : List Code
    more = drop (i + 1) items

    abbrev onward : Tables → PlainCode → Renewal PlainCodes
    onward n v m run st = on_ok (along_codes_as by_number run left p (suc i) (seen_all more m) st) (λ z. ok (code_and v z.0, z.1))

    first_renews : (old mid : Vm) (y : Code) → Renews a cells (One q x) old (λ n. seen_code n y) mid → Renews a cells (One (at i ∷ p) x) old (λ n. seen_code n y) mid
    first_renews old mid y r = subst (λ z. Renews a cells (One z x) old (λ n. seen_code n y) mid) here r

    rest_is : (y : Code) → drop (i + 1) (set items i y) ≡ more
    rest_is y = drop-set-lt (i + 1) items i y (omega arith)

    -- one more, and then the rest
    one_more : (y : Code) (ys : List Code) (old mid new : Vm) → Renews a cells (One q x) old (λ n. seen_code n y) mid → Renews a cells (Rest (i + 1) (drop (i + 1) (set items i y))) mid (seen_all ys) new
        → Renews a cells (Rest i (drop i items)) old (seen_all (y ∷ ys)) new
    one_more y ys old mid new r s =
        let s1 : Renews a cells (Rest (i + 1) more) mid (seen_all ys) new = subst (λ zs. Renews a cells (Rest (i + 1) zs) mid (seen_all ys) new) (rest_is y) s in
        let s2 : Renews a cells (Rest (suc i) more) mid (seen_all ys) new = subst (λ j. Renews a cells (Rest j more) mid (seen_all ys) new) (add-one i) s1 in
        subst (λ zs. Renews a cells (Rest i zs) old (seen_all (y ∷ ys)) new) (sym (drop_item items i x lt is))
        (renews_then a cells (One (at i ∷ p) x) (λ n v run st. onward n v n run st) (λ n. seen_code n y) (seen_all (y ∷ ys)) old mid new (first_renews old mid y r)
        (renews_in a cells (Rest (suc i) more) (λ n cs. code_and (seen_code n y) cs) (seen_all ys) mid new s2))

    one_fails : (old : Vm) (e : VmFault) → RenewFails a cells (One q x) old e → RenewFails a cells (Rest i (drop i items)) old e
    one_fails old e r =
        subst (λ zs. RenewFails a cells (Rest i zs) old e) (sym (drop_item items i x lt is))
        (fails_first a cells (One (at i ∷ p) x) (λ n v run st. onward n v n run st) old e (subst (λ z. RenewFails a cells (One z x) old e) here r))

    more_fails : (y : Code) (old mid : Vm) (e : VmFault) → Renews a cells (One q x) old (λ n. seen_code n y) mid → RenewFails a cells (Rest (i + 1) (drop (i + 1) (set items i y))) mid e → RenewFails a cells (Rest i (drop i items)) old e
    more_fails y old mid e r s =
        let s1 : RenewFails a cells (Rest (i + 1) more) mid e = subst (λ zs. RenewFails a cells (Rest (i + 1) zs) mid e) (rest_is y) s in
        let s2 : RenewFails a cells (Rest (suc i) more) mid e = subst (λ j. RenewFails a cells (Rest j more) mid e) (add-one i) s1 in
        subst (λ zs. RenewFails a cells (Rest i zs) old e) (sym (drop_item items i x lt is))
        (fails_then a cells (One (at i ∷ p) x) (λ n v run st. onward n v n run st) (λ n. seen_code n y) old mid e (first_renews old mid y r)
        (fails_in a cells (Rest (suc i) more) (λ n cs. code_and (seen_code n y) cs) (λ n st. st) mid e s2))

    pub walks_next : (all : Codes) (vm0 vm mid : Vm) (y : Code) → Walks all vm0 items i vm → Renews a cells (One q x) vm (λ n. seen_code n y) mid → Walks all vm0 (set items i y) (i + 1) mid
    walks_next all vm0 vm mid y w r = record {
      goes = λ ys v s. subst (λ zs. Renews a cells (All all) vm0 (seen_all zs) v)
          (sym (append_assoc (take i items) (y ∷ []) ys) ∙ ap (λ zs. zs ++ ys) (sym (take_more_set items i y lt)))
          (w.goes (y ∷ ys) v (one_more y ys vm mid v r s));
      stops = λ e s. w.stops e (more_fails y vm mid e r s);
    }

    pub walks_fail : (all : Codes) (vm0 vm : Vm) (e : VmFault) → Walks all vm0 items i vm → RenewFails a cells (One q x) vm e → RenewFails a cells (All all) vm0 e
    walks_fail all vm0 vm e w r = w.stops e (one_fails vm e r)

  pub walks_end : (all new : Codes) (vm0 vm : Vm) (items : List Code) (i : ℕ) → length items ≤ i → Walks all vm0 items i vm → items ≡ new.list.items → Renews a cells (All all) vm0 (λ n. seen_codes n new) vm
  walks_end all new vm0 vm items i le w e =
      renews_as a cells (All all) (seen_all (take i items ++ [])) (λ n. seen_codes n new) vm0 vm (λ n. ap (λ xs. seen_all xs n) (append-nil (take i items) ∙ take_all i items le) ∙ all_is new items e n)
      (w.goes [] vm (subst (λ zs. Renews a cells (Rest i zs) vm (λ n. no_codes) vm) (sym (drop_all i items le)) (renews_still a cells (λ n. no_codes) vm)))
