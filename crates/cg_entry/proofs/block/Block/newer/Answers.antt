use Rattle.std.proofs.Common.{◌∙◌, sym}
use Rattle.cg_entry.proofs.CutLemmas.{cut_at}
use Rattle.cg_entry.proofs.ReadLemmas.{end_newer, some_newer, last_newer, each_newer}
use Rattle.cg_entry.proofs.block.Block.newer.Goals as goal

pub returns-then-from-items-clause-value : goal.returns-then-from-items-clause-value
returns-then-from-items-clause-value c =
    let cut = cut_at c.as_slice-items.result.now c.self.inside.items.items c.self.inside.places c.self.inside.text_bytes c.args.above c.first_above-from.result c.args.self.now c.self.invariant c.self.view_is c.as_slice-items.ensures.value c.first_above-from.ensures.older c.first_above-from.ensures.newer in
    end_newer c.as_slice-items.result.now c.self.inside.items.items c.self.inside.places c.args.above c.first_above-from.result c.args.self.now cut c.as_slice-items.ensures.value c.if-from-items.true

pub returns-then-from-eq0-clause-value : goal.returns-then-from-eq0-clause-value
returns-then-from-eq0-clause-value c =
    let cut = cut_at c.as_slice-items.result.now c.self.inside.items.items c.self.inside.places c.self.inside.text_bytes c.args.above c.first_above-from.result c.args.self.now c.self.invariant c.self.view_is c.as_slice-items.ensures.value c.first_above-from.ensures.older c.first_above-from.ensures.newer in
    sym (each_newer c.self.inside.items.items c.self.inside.places c.args.above c.first_above-from.result c.args.self.now cut c.self.view_is c.if-from-eq0.true)

pub returns-then-from-items-2-clause-value : goal.returns-then-from-items-2-clause-value
returns-then-from-items-2-clause-value c =
    let cut = cut_at c.as_slice-items.result.now c.self.inside.items.items c.self.inside.places c.self.inside.text_bytes c.args.above c.first_above-from.result c.args.self.now c.self.invariant c.self.view_is c.as_slice-items.ensures.value c.first_above-from.ensures.older c.first_above-from.ensures.newer in
    c.in_ok-one.ensures ∙ last_newer c.as_slice-items.result.now c.self.inside.items.items c.self.inside.places c.args.above c.first_above-from.result c.index-items-from.result c.args.self.now cut c.as_slice-items.ensures.value c.if-from-items-2.true c.index-items-from.is

pub returns-then-from-eq0-clause-none : goal.returns-then-from-eq0-clause-none
returns-then-from-eq0-clause-none c = λ e.
    let cut = cut_at c.as_slice-items.result.now c.self.inside.items.items c.self.inside.places c.self.inside.text_bytes c.args.above c.first_above-from.result c.args.self.now c.self.invariant c.self.view_is c.as_slice-items.ensures.value c.first_above-from.ensures.older c.first_above-from.ensures.newer in
    absurd (some_newer c.as_slice-items.result.now c.self.inside.items.items c.self.inside.places c.args.above c.first_above-from.result c.args.self.now cut c.as_slice-items.ensures.value c.first_above-from.ensures.within c.if-from-items.false e)

pub returns-in_err-one-clause-none : goal.returns-in_err-one-clause-none
returns-in_err-one-clause-none c = λ e.
    let cut = cut_at c.as_slice-items.result.now c.self.inside.items.items c.self.inside.places c.self.inside.text_bytes c.args.above c.first_above-from.result c.args.self.now c.self.invariant c.self.view_is c.as_slice-items.ensures.value c.first_above-from.ensures.older c.first_above-from.ensures.newer in
    absurd (some_newer c.as_slice-items.result.now c.self.inside.items.items c.self.inside.places c.args.above c.first_above-from.result c.args.self.now cut c.as_slice-items.ensures.value c.first_above-from.ensures.within c.if-from-items.false e)

pub returns-then-from-items-2-clause-none : goal.returns-then-from-items-2-clause-none
returns-then-from-items-2-clause-none c = λ e.
    let cut = cut_at c.as_slice-items.result.now c.self.inside.items.items c.self.inside.places c.self.inside.text_bytes c.args.above c.first_above-from.result c.args.self.now c.self.invariant c.self.view_is c.as_slice-items.ensures.value c.first_above-from.ensures.older c.first_above-from.ensures.newer in
    absurd (some_newer c.as_slice-items.result.now c.self.inside.items.items c.self.inside.places c.args.above c.first_above-from.result c.args.self.now cut c.as_slice-items.ensures.value c.first_above-from.ensures.within c.if-from-items.false e)

pub returns-in_err-newer_than-clause-none : goal.returns-in_err-newer_than-clause-none
returns-in_err-newer_than-clause-none c = λ e.
    let cut = cut_at c.as_slice-items.result.now c.self.inside.items.items c.self.inside.places c.self.inside.text_bytes c.args.above c.first_above-from.result c.args.self.now c.self.invariant c.self.view_is c.as_slice-items.ensures.value c.first_above-from.ensures.older c.first_above-from.ensures.newer in
    absurd (some_newer c.as_slice-items.result.now c.self.inside.items.items c.self.inside.places c.args.above c.first_above-from.result c.args.self.now cut c.as_slice-items.ensures.value c.first_above-from.ensures.within c.if-from-items.false e)

pub returns-clause-none : goal.returns-clause-none
returns-clause-none c = λ e.
    let cut = cut_at c.as_slice-items.result.now c.self.inside.items.items c.self.inside.places c.self.inside.text_bytes c.args.above c.first_above-from.result c.args.self.now c.self.invariant c.self.view_is c.as_slice-items.ensures.value c.first_above-from.ensures.older c.first_above-from.ensures.newer in
    absurd (some_newer c.as_slice-items.result.now c.self.inside.items.items c.self.inside.places c.args.above c.first_above-from.result c.args.self.now cut c.as_slice-items.ensures.value c.first_above-from.ensures.within c.if-from-items.false e)
