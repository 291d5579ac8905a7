-- The unknown names with their places are the unknown names, in the same order.
use Rattle.std.proofs.Common.{◌≡◌, ℕ, suc, List, [], ◌∷◌, ◌++◌, map, refl, ap, ◌∙◌, append_assoc}
use Rattle.std.proofs.lemmas.List.{map-append}
use Rattle.gl_base.specs.Texts.{Text}
use Rattle.gl_ast.specs.Template.{Stmt, text_stmt, comment_stmt, put, element, component_stmt, if_stmt, each, let_stmt, yield, Body, end, stmt, Slots, no_slots, block}
use Rattle.gl_meaning.specs.App.{Class, App}
use Rattle.gl_meaning.specs.Known.{Unknown, stmt_unknowns, body_unknowns, slots_unknowns}
use Rattle.gl_opc.specs.TreeFaults.{Fault, at_stmt, stmt_faults, body_faults, slots_faults, own_unknowns}

abbrev pub unknowns_of : List Fault → List Unknown
unknowns_of fs = map (λ f. f.unknown) fs

unknowns_of-at_stmt : (i : ℕ) (us : List Unknown) → unknowns_of (map (at_stmt i) us) ≡ us
unknowns_of-at_stmt i [] = refl
unknowns_of-at_stmt i (u ∷ us) = ap (λ vs. u ∷ vs) (unknowns_of-at_stmt i us)

-- first those of one list, then those of another
joined : (fs gs : List Fault) (us vs : List Unknown) → unknowns_of fs ≡ us → unknowns_of gs ≡ vs → unknowns_of (fs ++ gs) ≡ us ++ vs
joined fs gs us vs e f = map-append (λ f. f.unknown) fs gs ∙ (ap (λ xs. xs ++ unknowns_of gs) e ∙ ap (λ ys. us ++ ys) f)

module _ (app : App) (c : Class) where
  own : (params : List Text) (i : ℕ) (s : Stmt) → unknowns_of (map (at_stmt i) (own_unknowns app c params s)) ≡ own_unknowns app c params s
  own params i s = unknowns_of-at_stmt i (own_unknowns app c params s)

  mutual
    pub stmt_faults-unknowns : (params : List Text) (i : ℕ) (s : Stmt) → unknowns_of (stmt_faults app c params i s) ≡ stmt_unknowns app c params s
    stmt_faults-unknowns params i (text_stmt s) = refl
    stmt_faults-unknowns params i (comment_stmt s) = refl
    stmt_faults-unknowns params i (put e) = own params i (put e)
    stmt_faults-unknowns params i (element tag ps b) =
        joined _ _ _ _ (own params i (element tag ps b)) (body_faults-unknowns params (suc i) b)
    stmt_faults-unknowns params i (component_stmt n ps given ss) =
        joined _ _ _ _ (own params i (component_stmt n ps given ss)) (slots_faults-unknowns params (suc i) ss)
        ∙ rw (append_assoc, append_assoc) refl
    stmt_faults-unknowns params i (if_stmt e unless b o) =
        joined _ _ _ _ (own params i (if_stmt e unless b o)) (joined _ _ _ _ (body_faults-unknowns params _ b) (body_faults-unknowns params _ o))
    stmt_faults-unknowns params i (each e key ns b o) =
        joined _ _ _ _ (own params i (each e key ns b o)) (joined _ _ _ _ (body_faults-unknowns (params ++ ns) _ b) (body_faults-unknowns params _ o))
    stmt_faults-unknowns params i (let_stmt es ns b) =
        joined _ _ _ _ (own params i (let_stmt es ns b)) (body_faults-unknowns (params ++ ns) _ b)
    stmt_faults-unknowns params i (yield es to) = own params i (yield es to)

    pub body_faults-unknowns : (params : List Text) (i : ℕ) (b : Body) → unknowns_of (body_faults app c params i b) ≡ body_unknowns app c params b
    body_faults-unknowns params i end = refl
    body_faults-unknowns params i (stmt s b) = joined _ _ _ _ (stmt_faults-unknowns params i s) (body_faults-unknowns params _ b)

    pub slots_faults-unknowns : (params : List Text) (i : ℕ) (ss : Slots) → unknowns_of (slots_faults app c params i ss) ≡ slots_unknowns app c params ss
    slots_faults-unknowns params i no_slots = refl
    slots_faults-unknowns params i (block n ns b ss) = joined _ _ _ _ (body_faults-unknowns (params ++ ns) _ b) (slots_faults-unknowns params _ ss)
