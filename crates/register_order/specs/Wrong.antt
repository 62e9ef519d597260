-- That the register's order rules wrong listings out, and stores that record wrongly, part by part: how many are listed, and of each its
-- kind, tag, panel, mask, begin and end. Each theorem says which parts differ on a list of steps, and that all the others agree.
use Rattle.std.specs.Prelude.{◌≡◌, refl, List, [], ◌∷◌}
use Rattle.std.proofs.Common.{ap}
use Rattle.ranges.specs.All.{all_below, any_below}
use Rattle.ranges.specs.Sum.{sum_below}
use Rattle.ranges.specs.First.{first_from}
use Rattle.ranges.specs.Last.{last_below}
use Rattle.ranges.specs.Turns.{turns}
use Rattle.ranges.specs.Inserted.{inserted}
use Rattle.tables.specs.Layout.{client_of_record, number_of_record, tag_of_record, begin_of_record, end_of_record}
use Rattle.tables.specs.Links.{link_at, put_link}
use Rattle.server.specs.Held.{appended}
use Rattle.coordinator.specs.Log as log
use Rattle.rules.specs.Answer.{Ok}
use Rattle.rules.specs.Begin.{begun_write, begun_read}
use Rattle.rules.specs.Request.{on_set, on_new_set, on_enter, on_new_enter, on_which_keys, on_get, on_get_all, on_request_in, request_delivered}
use Rattle.rules.specs.Reply.{on_set_done, on_entered, on_keys, on_got, on_all, on_reply_in, reply_delivered}
use Rattle.rules.specs.Loss.{link_lost, sent_in, link_resent}
use Rattle.soundness.specs.Sound.{long_enough, press_fits, scalars_sound, key_in_range, server_sound, entry_sound, log_sound, state_allowed}
use Rattle.soundness.specs.Sound.{uses, request_sound, reply_sound, content_sound, link_sound, received_sound, client_sound, write_sound}
use Rattle.soundness.specs.Sound.{read_sound, open_sound, records_sound, sound}
use Rattle.refusals.specs.Refusals.{open_refusal, write_refusal, read_refusal, delivery_refusal}
use Rattle.refusals.specs.Steps.{open', begin_write, begin_read, deliver_request, deliver_reply, lose, resend}
use Rattle.listing.specs.Register.{places_below, passing, inserted_all, listed_to, register}
use Rattle.claim.specs.Steps.{opened, play}
use Rattle.claim.specs.History.{changed}
use Rattle.claim.specs.Row as row
use Rattle.claim.specs.Sample.{zeros, later_first}
use Rattle.claim.specs.WrongStores.{first, entering_twice}
use Rattle.claim.specs.Lists.{then_read_by_b, then_read_by_c, two_reads, reply_less, request_only, overtaken, lossy_by_b}
use Rattle.claim.specs.Lists.{entered_again, entered_between}
use Rattle.listed_order.specs.Parts as part
use Rattle.listed_order.specs.Parts.{lines, rowed, Differs, Computed}
use Rattle.listed_order.proofs.Parts.{differs}
use Rattle.listed_order.specs.Parts.{Part}
use Rattle.register_order.specs.WrongListings.{by_end, by_begin_falling, reads_ahead, finished_only, untagged_too, unfinished_too}
use Rattle.register_order.specs.WrongListings.{kinds_exchanged, writes_by_begin, misread, miswritten}

-- what differs beside the count where one is missing or too many, and beside the kind where a WRITE and a READ change places
abbrev particulars : List Part
particulars = part.kind ∷ part.tag ∷ part.client ∷ part.mask ∷ part.begin ∷ part.end ∷ []

abbrev exchanged : List Part
exchanged = part.client ∷ part.mask ∷ part.begin ∷ part.end ∷ []

-- ---- what the tests of every part say of each, computed

record Tested : Type 0 where
  by_b : (open' 2 2 2 first zeros).answer ≡ Ok
  by_c : (open' 3 2 2 first zeros).answer ≡ Ok
  not-finished_only : Computed finished_only play 3 two_reads (part.count ∷ particulars)
  not_untagged : Computed untagged_too play 2 request_only (part.count ∷ particulars)
  not-unfinished : Computed unfinished_too play 2 reply_less (part.count ∷ particulars)
  not-by_end : Computed by_end play 2 later_first (part.client ∷ part.begin ∷ part.end ∷ [])
  not-by_begin_falling : Computed by_begin_falling play 3 two_reads (part.begin ∷ part.end ∷ [])
  not-reads_ahead : Computed reads_ahead play 2 then_read_by_b (part.kind ∷ exchanged)
  not-writes_by_begin : Computed writes_by_begin play 2 overtaken (part.tag ∷ part.client ∷ part.begin ∷ [])
  not-kinds_exchanged : Computed kinds_exchanged play 2 then_read_by_b (part.kind ∷ exchanged)
  not-tag_of_read : Computed writes_by_begin (misread tag_of_record 0) 2 then_read_by_b (part.tag ∷ [])
  not-tag_of_write : Computed writes_by_begin (miswritten tag_of_record 2) 3 then_read_by_c (part.tag ∷ [])
  not-client_of-read : Computed register (misread client_of_record 0) 2 then_read_by_b (part.client ∷ [])
  not-client_of-write : Computed register (miswritten client_of_record 1) 2 then_read_by_b (part.client ∷ [])
  not-mask_of-read : Computed register (misread number_of_record 1) 2 then_read_by_b (part.mask ∷ [])
  not-begin-of_read : Computed register (misread begin_of_record 1) 2 then_read_by_b (part.begin ∷ [])
  not-begin_of-write : Computed register (miswritten begin_of_record 1) 3 then_read_by_c (part.begin ∷ [])
  not-end_of-read : Computed register (misread end_of_record 99) 3 then_read_by_c (part.end ∷ [])
  not-end_of-write : Computed register (miswritten end_of_record 0) 2 then_read_by_b (part.end ∷ [])
  not-entered-twice : Computed register (entering_twice play) 3 entered_again (part.tag ∷ [])
  right-lossy : Computed register play 2 lossy_by_b []
  right-between : Computed register play 3 entered_between []

tested : Tested
unfolding zeros later_first lines rowed changed row.reads_of row.row_to open' begin_write begin_read deliver_request deliver_reply open_refusal
    write_refusal read_refusal delivery_refusal long_enough press_fits turns sound scalars_sound key_in_range server_sound entry_sound
    log_sound state_allowed uses request_sound reply_sound content_sound link_sound received_sound client_sound write_sound read_sound
    open_sound records_sound all_below any_below sum_below link_at put_link first_from last_below appended log.entered begun_write
    begun_read on_set on_new_set on_enter on_new_enter on_which_keys on_get on_get_all on_request_in request_delivered on_set_done on_entered on_keys on_got
    on_all on_reply_in reply_delivered link_lost sent_in link_resent lose resend places_below passing inserted inserted_all listed_to
tested = record {
  by_b = refl;
  by_c = refl;
  not-finished_only = refl;
  not_untagged = refl;
  not-unfinished = refl;
  not-by_end = refl;
  not-by_begin_falling = refl;
  not-reads_ahead = refl;
  not-writes_by_begin = refl;
  not-kinds_exchanged = refl;
  not-tag_of_read = refl;
  not-tag_of_write = refl;
  not-client_of-read = refl;
  not-client_of-write = refl;
  not-mask_of-read = refl;
  not-begin-of_read = refl;
  not-begin_of-write = refl;
  not-end_of-read = refl;
  not-end_of-write = refl;
  not-entered-twice = refl;
  right-lossy = refl;
  right-between = refl;
}

-- each opens as the store does
opens_b : opened 2 2 2 first (open' 2 2 2 first zeros).answer ≡ opened 2 2 2 first Ok
opens_b = ap (opened 2 2 2 first) tested.by_b

opens_c : opened 3 2 2 first (open' 3 2 2 first zeros).answer ≡ opened 3 2 2 first Ok
opens_c = ap (opened 3 2 2 first) tested.by_c

-- with every request and every reply lost once, and with a WRITE of another client between an enter request and the same sent again, the
-- register and the row agree in every part
pub agrees-lossy : Computed register play 2 lossy_by_b [] × Computed register play 3 entered_between []
agrees-lossy = (tested.right-lossy, tested.right-between)

-- ---- the wrong listings and records, by part

-- all of the row: a WRITE that has its tag and no end is left out
pub not-finished_only : Differs finished_only play 3 two_reads (part.count ∷ particulars)
not-finished_only = differs finished_only play 3 two_reads part.count particulars opens_c tested.not-finished_only

-- and no other: a WRITE without a tag is listed
pub not_untagged : Differs untagged_too play 2 request_only (part.count ∷ particulars)
not_untagged = differs untagged_too play 2 request_only part.count particulars opens_b tested.not_untagged

-- a READ without an end is listed
pub not-unfinished : Differs unfinished_too play 2 reply_less (part.count ∷ particulars)
not-unfinished = differs unfinished_too play 2 reply_less part.count particulars opens_b tested.not-unfinished

-- the order: READs of a tag by end, where the one that began later ended first
pub not-by_end : Differs by_end play 2 later_first (part.client ∷ part.begin ∷ part.end ∷ [])
not-by_end = differs by_end play 2 later_first part.client (part.begin ∷ part.end ∷ []) opens_b tested.not-by_end

-- READs of a tag by begin falling
pub not-by_begin_falling : Differs by_begin_falling play 3 two_reads (part.begin ∷ part.end ∷ [])
not-by_begin_falling = differs by_begin_falling play 3 two_reads part.begin (part.end ∷ []) opens_c tested.not-by_begin_falling

-- a READ ahead of the WRITE of its tag
pub not-reads_ahead : Differs reads_ahead play 2 then_read_by_b (part.kind ∷ exchanged)
not-reads_ahead = differs reads_ahead play 2 then_read_by_b part.kind exchanged opens_b tested.not-reads_ahead

-- WRITEs by begin, whatever their tags
pub not-writes_by_begin : Differs writes_by_begin play 2 overtaken (part.tag ∷ part.client ∷ part.begin ∷ [])
not-writes_by_begin =
    differs writes_by_begin play 2 overtaken part.tag (part.client ∷ part.begin ∷ []) opens_b tested.not-writes_by_begin

-- the kind
pub not-kinds_exchanged : Differs kinds_exchanged play 2 then_read_by_b (part.kind ∷ exchanged)
not-kinds_exchanged = differs kinds_exchanged play 2 then_read_by_b part.kind exchanged opens_b tested.not-kinds_exchanged

-- the tag, of a READ and of a WRITE, listed in the right order all the same
pub not-tag_of_read : Differs writes_by_begin (misread tag_of_record 0) 2 then_read_by_b (part.tag ∷ [])
not-tag_of_read = differs writes_by_begin (misread tag_of_record 0) 2 then_read_by_b part.tag [] opens_b tested.not-tag_of_read

pub not-tag_of_write : Differs writes_by_begin (miswritten tag_of_record 2) 3 then_read_by_c (part.tag ∷ [])
not-tag_of_write = differs writes_by_begin (miswritten tag_of_record 2) 3 then_read_by_c part.tag [] opens_c tested.not-tag_of_write

-- the panel
pub not-client_of-read : Differs register (misread client_of_record 0) 2 then_read_by_b (part.client ∷ [])
not-client_of-read = differs register (misread client_of_record 0) 2 then_read_by_b part.client [] opens_b tested.not-client_of-read

pub not-client_of-write : Differs register (miswritten client_of_record 1) 2 then_read_by_b (part.client ∷ [])
not-client_of-write = differs register (miswritten client_of_record 1) 2 then_read_by_b part.client [] opens_b tested.not-client_of-write

-- the mask of a READ
pub not-mask_of-read : Differs register (misread number_of_record 1) 2 then_read_by_b (part.mask ∷ [])
not-mask_of-read = differs register (misread number_of_record 1) 2 then_read_by_b part.mask [] opens_b tested.not-mask_of-read

-- the begin
pub not-begin-of_read : Differs register (misread begin_of_record 1) 2 then_read_by_b (part.begin ∷ [])
not-begin-of_read = differs register (misread begin_of_record 1) 2 then_read_by_b part.begin [] opens_b tested.not-begin-of_read

pub not-begin_of-write : Differs register (miswritten begin_of_record 1) 3 then_read_by_c (part.begin ∷ [])
not-begin_of-write = differs register (miswritten begin_of_record 1) 3 then_read_by_c part.begin [] opens_c tested.not-begin_of-write

-- the end
pub not-end_of-read : Differs register (misread end_of_record 99) 3 then_read_by_c (part.end ∷ [])
not-end_of-read = differs register (misread end_of_record 99) 3 then_read_by_c part.end [] opens_c tested.not-end_of-read

pub not-end_of-write : Differs register (miswritten end_of_record 0) 2 then_read_by_b (part.end ∷ [])
not-end_of-write = differs register (miswritten end_of_record 0) 2 then_read_by_b part.end [] opens_b tested.not-end_of-write

-- an enter request that is sent again gives its WRITE a second tag
pub not-entered-twice : Differs register (entering_twice play) 3 entered_again (part.tag ∷ [])
not-entered-twice = differs register (entering_twice play) 3 entered_again part.tag [] opens_c tested.not-entered-twice
