-- `requests::deliver_request` meets its contract: a request or none on the link is a case law of `request_delivered`.
use mathlib.Core.Path.{sym, ◌∙◌, ap}
use Rattle.tables.specs.declared.links.Link.{Link}
use Rattle.requests.specs.Cases.{by-none, by-request}
use Rattle.requests.proofs.deliver_request.Goals as goal

pub answer_in_state-requires : goal.answer_in_state-requires
answer_in_state-requires c =
    let p = c.requires in record {
      fillable = p.fillable;
      has_row = (p.row, p.target);
      asks = p.asks _ (ap (λ (k : Link). k.content) (sym c.link_at-link.ensures)
          ∙ c.in-Request.is);
    }

pub returns-in_default : goal.returns-in_default
returns-in_default c = λ reads. by-none _ _ _ c.link_at-link.ensures c.in_default.not-Request

pub returns : goal.returns
returns c =
    λ reads.
    by-request _ _ _ c.link_at-link.ensures c.in-Request.is (c.answer_in_state.ensures reads)
