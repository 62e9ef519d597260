-- An append that may be made has its place and stores there; one that may not, changes nothing.
use Rattle.std.proofs.Common.{rules, ◌<◌, sym, ◌∙◌, length}
use Rattle.std.proofs.lemmas.Result.{err_from_is_err_and}
use Rattle.causes.specs.NumberLaws.{some-number}
use Rattle.version_records.specs.Cases.{done-place, done_table, refused_table}
use Rattle.versions.proofs.append.Goals as goal

pub offset_bounds-versions-held : goal.offset_bounds-versions-held
offset_bounds-versions-held c =
    let h : c.args.held < length c.args.versions.now = done-place c.args.versions.now c.args.held c.args.version (sym c.in_ok-may_append.ensures) in
    search rules

pub bounds-versions-held : goal.bounds-versions-held
bounds-versions-held c = done-place c.args.versions.now c.args.held c.args.version (sym c.in_ok-may_append.ensures)

pub returns-in_err-may_append : goal.returns-in_err-may_append
returns-in_err-may_append c =
    let a = c.args in
    let p = err_from_is_err_and c.from_residual.result c.from_residual.ensures.1 in
    let n = c.in_err-may_append.ensures in
    rw (p.1, p.2) (n, refused_table a.versions.now a.held a.version (λ e. some-number c.in_err-may_append.field-0.0 (n ∙ e)))

pub returns : goal.returns
returns c = (c.in_ok-may_append.ensures, done_table c.args.versions.now c.args.held c.args.version (sym c.in_ok-may_append.ensures))
