use Rattle.std.proofs.Common.{◌≡◌, [], ◌++◌, ◌+◌, true, false, cond, Some, length, map, drop, refl, sym, ap, ◌∙◌, subst, arith, drop_of_length-le}
use Rattle.std.proofs.lemmas.List.{append-nil}
use Rattle.std.specs.Prelude.{codes}
use Rattle.moxi_sexpr.specs.declared.form.Form.{out-Form}
use Rattle.moxi_sexpr.specs.Tree as form
use Rattle.moxi_terms.specs.View.{plain}
use Rattle.moxi_term_reading.specs.Failures.{least}
use Rattle.moxi_term_reading.specs.Forms.{sizes, is_named, is_word, pair_now, symbol_of, symbol_now, place_in, is_primed}
use Rattle.moxi_term_reading.specs.Reading.{no_arguments, argument, both_arguments, no_bindings, both_bindings, bound_to, binding_of, bindings_tests, prime_failures, let_reading, application, underscore_reading, head_primes, head_of, read, read_all, read_let, read_binding, read_bindings}
use Rattle.moxi_term_reading.specs.Answer.{IsRead, AreStacked, AreBound, context_of}
use Rattle.moxi_term_reading.proofs.BoundLaws.{bindings_few}
use Rattle.moxi_term_reading.proofs.ReadingLaws.{tests_both, arguments_assoc, arguments_front, arguments_back, forms_step, plain_list, pair_is, if_ok_map, on_ok_map}
use Rattle.moxi_term_reading.proofs.read.+read.Goals as goal

pub read_all-loop-form-init : goal.read_all-loop-form-init
read_all-loop-form-init t c = record {
  read = (
    no_arguments,
    record { own = []; stack = sym (append-nil c.args.sorts.now.items); read = record { terms = ap (map plain) c.in_ok-with_capacity.ensures.items; sorts = refl; failure = refl } },
    arguments_front (read_all (context_of c.args.setting) c.args.bounds.now (form.plain_forms c.args.forms.now)),
  );
  kept = refl;
  few = omega arith;
  left = omega arith;
}

pub read_all-loop-form-preserved : goal.read_all-loop-form-preserved
read_all-loop-form-preserved t c =
    let l = c.loop-form in
    let fs = c.args.forms.now in
    let ctx = context_of c.args.setting in
    let b = c.args.bounds.now in
    let before = c.args.sorts.now.items in
    let f = c.form-item.result in
    let e = forms_step fs l.form-index f c.loop-form-test.true c.form-item.is in
    let rest = form.plain_forms (drop (l.form-index + 1) fs) in
    let x = l.invariant.read in
    let y = argument (read ctx b (form.plain f)) in
    let added = c.in_ok-read_argument.ensures.read x.0 before x.1 in
    let got : AreStacked (both_arguments x.0 y) c.read_argument.new.args before c.read_argument.new.sorts.items =
    subst (λ b. AreStacked (both_arguments x.0 (argument (read ctx b (form.plain f)))) c.read_argument.new.args before c.read_argument.new.sorts.items) l.invariant.kept added in
    let kept : c.read_argument.new.bounds ≡ l.bounds = c.in_ok-read_argument.ensures.kept in
    record {
      read = (both_arguments x.0 y, got, arguments_assoc x.0 y (read_all ctx b rest) ∙ ap (λ ts. both_arguments x.0 (read_all ctx b ts)) (sym e) ∙ x.2);
      kept = kept ∙ l.invariant.kept;
      few = omega (arith, ap form.all_nodes e, l.invariant.few);
      left = omega (arith, ap sizes e, l.invariant.left);
    }

pub read_all-returns-clause-read : goal.read_all-returns-clause-read
read_all-returns-clause-read t c =
    let l = c.loop-form in
    let fs = c.args.forms.now in
    let ctx = context_of c.args.setting in
    let b = c.args.bounds.now in
    let x = l.invariant.read in
    let e = ap form.plain_forms (drop_of_length-le fs c.loop-form-test.false) in
    let is : x.0 ≡ read_all ctx b (form.plain_forms fs) = sym (arguments_back x.0) ∙ ap (λ ts. both_arguments x.0 (read_all ctx b ts)) (sym e) ∙ x.2 in
    subst (λ x. AreStacked x l.args c.args.sorts.now.items l.sorts.items) is x.1

pub read_bindings-loop-form-init : goal.read_bindings-loop-form-init
read_bindings-loop-form-init t c = record {
  read = (no_bindings, record { names = c.new.ensures; locals = c.new-2.ensures; terms = ap (map plain) c.new-3.ensures.items; shape = refl; failure = refl }, refl);
  kept = refl;
  stack = refl;
  few = omega arith;
  left = omega arith;
}

pub read_binding-returns-in_ok-r-in-Some-symbol_of-clause-read : goal.read_binding-returns-in_ok-r-in-Some-symbol_of-clause-read
read_binding-returns-in_ok-r-in-Some-symbol_of-clause-read t c =
    let ctx = context_of c.args.setting in
    let b = c.args.bounds.now in
    let f = c.args.form.now in
    let p = (out-Form f).place in
    let s = c.in-Some.symbol.now in
    let v = c.in-Some.value.now in
    let x = c.in-Some-symbol_of in
    let y = read ctx b (form.plain v) in
    let fs = prime_failures x.primed (place_in (form.plain s)) in
    let parts : form.plain_forms c.deref.result.now ≡ form.tree (form.plain s) (form.tree (form.plain v) form.no_trees) =
    pair_is (form.plain_forms c.deref.result.now) (form.plain s) (form.plain v) (ap pair_now (sym c.in-Some.is) ∙ c.pair.ensures) in
    let e : form.plain f ≡ form.list p (form.tree (form.plain s) (form.tree (form.plain v) form.no_trees)) =
    plain_list f c.in-List.parts c.in-List.is ∙ ap (λ ts. form.list p (form.plain_forms ts)) (sym c.deref.ensures.value) ∙ ap (form.list p) parts in
    let symbol : Some (x.name.now, x.primed) ≡ symbol_of (form.plain s) = ap symbol_now (sym x.is) ∙ c.symbol_of.ensures in
    let is : read_binding ctx b c.args.q (form.plain f) ≡ bound_to x.name.now fs y =
    ap (read_binding ctx b c.args.q) e ∙ ap (λ o. binding_of p (form.plain s) o y) (sym symbol) in
    let primes : c.prime.result ≡ least fs = c.prime.ensures ∙ ap (λ p. least (prime_failures x.primed p)) c.place_in.ensures in
    let got : IsRead y c.in_ok-r-in-Some-symbol_of.r = c.in_ok-r-in-Some-symbol_of.ensures.read in
    on_ok_map _ _ c.bind_to.result
    (λ h z a. subst (λ w. AreBound (both_bindings z w) c.bind_to.new.all) (sym is) (h z y fs primes a got))
    c.bind_to.ensures

pub read_body-returns-clause-read : goal.read_body-returns-clause-read
read_body-returns-clause-read t c =
    let ctx = context_of c.args.setting in
    let b = c.args.bounds.now in
    let body = form.plain c.args.body.now in
    let bound : c.bind_all.new.self ≡ b ++ c.args.bindings.locals = c.in_ok-bind_all.ensures in
    if_ok_map _ _ c.let_term.result
    (λ r h fs x e a.
    let here : c.bind_all.new.self ≡ b ++ x.locals = bound ∙ ap (λ ls. b ++ ls) a.locals in
    h x (read ctx (b ++ x.locals) body) fs e a (subst (λ b. IsRead (read ctx b body) c.in_ok-r.r) here c.in_ok-r.ensures.read))
    c.let_term.ensures

pub read_list-returns-then-is_named-clause-read : goal.read_list-returns-then-is_named-clause-read
read_list-returns-then-is_named-clause-read t c =
    let ctx = context_of c.args.setting in
    let b = c.args.bounds.now in
    let p = c.args.p in
    let h = form.plain c.in-Some.head.now in
    let ts = form.plain_forms c.in-Some.rest.now in
    let e : form.plain_forms c.args.parts.now ≡ form.tree h ts = ap form.plain_forms c.in-Some.ensures.cases.0 in
    let other = cond (is_word (codes "_") h) (underscore_reading p (place_in h) (is_primed h) ts) (application ctx.scope.functions p (head_primes h) (head_of ctx.scope p h) (read_all ctx b ts)) in
    let word : is_word (codes "let") h ≡ true = ap (is_named (codes "let")) (sym c.symbol_of-symbol.ensures) ∙ sym c.is_named.ensures ∙ c.if-is_named.true in
    let is : read ctx b (form.list p (form.plain_forms c.args.parts.now)) ≡ read_let ctx b p (head_primes h) ts =
    ap (λ ts. read ctx b (form.list p ts)) e ∙ ap (λ w. cond w (read_let ctx b p (head_primes h) ts) other) word in
    if_ok_map _ _ c.read_let.result
    (λ r g. subst (λ x. IsRead x r) (sym is) (g (head_primes h) c.head_prime.ensures))
    c.read_let.ensures.read

pub read_list-returns-else-is_named-2-clause-read : goal.read_list-returns-else-is_named-2-clause-read
read_list-returns-else-is_named-2-clause-read t c =
    let ctx = context_of c.args.setting in
    let b = c.args.bounds.now in
    let p = c.args.p in
    let h = form.plain c.in-Some.head.now in
    let ts = form.plain_forms c.in-Some.rest.now in
    let e : form.plain_forms c.args.parts.now ≡ form.tree h ts = ap form.plain_forms c.in-Some.ensures.cases.0 in
    let last = application ctx.scope.functions p (head_primes h) (head_of ctx.scope p h) (read_all ctx b ts) in
    let one : is_word (codes "let") h ≡ false = ap (is_named (codes "let")) (sym c.symbol_of-symbol.ensures) ∙ sym c.is_named.ensures ∙ c.if-is_named.false in
    let two : is_word (codes "_") h ≡ false = ap (is_named (codes "_")) (sym c.symbol_of-symbol.ensures) ∙ sym c.is_named-else-is_named.ensures ∙ c.if-is_named-2.false in
    let is : read ctx b (form.list p (form.plain_forms c.args.parts.now)) ≡ last =
    ap (λ ts. read ctx b (form.list p ts)) e ∙ ap (λ w. cond w (read_let ctx b p (head_primes h) ts) (cond (is_word (codes "_") h) (underscore_reading p (place_in h) (is_primed h) ts) last)) one
    ∙ ap (λ w. cond w (underscore_reading p (place_in h) (is_primed h) ts) last) two in
    if_ok_map _ _ c.read_application.result
    (λ r g. subst (λ x. IsRead x r) (sym is) g)
    c.read_application.ensures.read

pub read_let-read_body-requires : goal.read_let-read_body-requires
read_let-read_body-requires t c =
    let ctx = context_of c.args.setting in
    let f = c.in-Some.list.now in
    let q = (out-Form f).place in
    let body = form.plain c.in-Some.body.now in
    let bs = form.plain_forms c.in-List.parts.items in
    let rest : form.plain_forms c.args.rest.now ≡ form.tree (form.list q bs) (form.tree body form.no_trees) =
    pair_is (form.plain_forms c.args.rest.now) (form.plain f) body (ap pair_now (sym c.in-Some.is) ∙ c.pair.ensures)
    ∙ ap (λ x. form.tree x (form.tree body form.no_trees)) (plain_list f c.in-List.parts c.in-List.is) in
    let bound : AreBound (read_bindings ctx c.args.bounds.now q bs) c.in_ok-bindings-in-List.bindings =
    subst (λ fs. AreBound (read_bindings ctx c.args.bounds.now q (form.plain_forms fs)) c.in_ok-bindings-in-List.bindings) c.deref.ensures.value c.in_ok-bindings-in-List.ensures.read in (
      omega (arith, ap sizes rest, c.decreases),
      omega (arith, ap form.all_nodes rest, ap length bound.locals, bindings_few ctx c.args.bounds.now q bs, ap length c.in_ok-bindings-in-List.ensures.kept, c.requires.few),
    )

pub read_let-returns-in_ok-bindings-in-List-clause-read : goal.read_let-returns-in_ok-bindings-in-List-clause-read
read_let-returns-in_ok-bindings-in-List-clause-read t c =
    let ctx = context_of c.args.setting in
    let b = c.args.bounds.now in
    let p = c.args.p in
    let f = c.in-Some.list.now in
    let q = (out-Form f).place in
    let body = form.plain c.in-Some.body.now in
    let bs = form.plain_forms c.in-List.parts.items in
    let rest : form.plain_forms c.args.rest.now ≡ form.tree (form.list q bs) (form.tree body form.no_trees) =
    pair_is (form.plain_forms c.args.rest.now) (form.plain f) body (ap pair_now (sym c.in-Some.is) ∙ c.pair.ensures)
    ∙ ap (λ x. form.tree x (form.tree body form.no_trees)) (plain_list f c.in-List.parts c.in-List.is) in
    let x = read_bindings ctx b q bs in
    let bound : AreBound x c.in_ok-bindings-in-List.bindings =
    subst (λ fs. AreBound (read_bindings ctx b q (form.plain_forms fs)) c.in_ok-bindings-in-List.bindings) c.deref.ensures.value c.in_ok-bindings-in-List.ensures.read in
    let some : c.some_binding.result ≡ least (bindings_tests q bs) = c.some_binding.ensures ∙ ap (λ fs. least (bindings_tests q (form.plain_forms fs))) c.deref-in-List.ensures.value in
    let kept : c.read_bindings.new.bounds ≡ b = c.in_ok-bindings-in-List.ensures.kept in
    if_ok_map _ _ c.read_body.result
    (λ r g fs e.
    let tests = c.minimum-failure.ensures ∙ tests_both c.args.primes c.some_binding.result fs (bindings_tests q bs) e some in
    subst (λ ts. IsRead (read_let ctx b p fs ts) r) (sym rest)
    (subst (λ d. IsRead (let_reading (fs ++ bindings_tests q bs) x (read ctx (d ++ x.locals) body)) r) kept (g (fs ++ bindings_tests q bs) x tests bound)))
    c.read_body.ensures.read
