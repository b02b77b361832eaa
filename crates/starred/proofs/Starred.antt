-- Every starred case of the paper holds of the rules and of the image.
use mathlib.Core.Bool.{true}
use mathlib.Core.Path.{◌≡◌, refl}
use lib.Count.{ones, ones_in}
use Rattle.rules.specs.Pick.{pick}
use Rattle.rules.specs.Every.{all, each, every, tally}
use Rattle.rules.specs.Sizes.{sizes_form, proper, record_form}
use Rattle.rules.specs.Sets.{bit, joined, without, digit, has, set_form, full_set}
use Rattle.rules.specs.Numbers.{in_state, in_phase}
use Rattle.rules.specs.NewPn.{new_pn}
use Rattle.rules.specs.Turns.{first_cause, unless, settled}
use Rattle.rules.specs.Parts.{others, under_of, higher, room_next, took_kept, took_book}
use Rattle.rules.specs.Parts.{cleared}
use Rattle.rules.specs.Last.{
  noted,
  told as has_told,
  behind,
  lagging,
  improves,
  bettered,
  raised,
  counted,
  uncounted,
  replied,
  last_verdict,
  on_last,
}
use Rattle.rules.specs.Mails.{
  unagreed_of,
  on_collect,
  begin_verdict,
  on_begin,
  accept_verdict,
  on_accept,
  on_commit,
  on_lease,
  lease_ack_verdict,
  on_lease_ack,
  of_kind,
  on_mail,
}
use Rattle.rules.specs.Steps.{
  elected,
  can_recover,
  recover,
  can_collect,
  best_held,
  collect,
  started,
  leased,
  can_ready,
  has_previous,
  ready,
  can_offer,
  offer,
  can_propose,
  propose,
  can_agree,
  agree,
  can_finish,
  finish,
  acted,
}
use Rattle.rules.specs.Box.{held_at, written, enclosed}
use Rattle.rules.specs.Site.{fresh_head, fresh, posted, room}
use Rattle.rules.specs.Form.{first_form, count_form, peer_form, form_box, form_kind, form_letter}
use Rattle.rules.specs.Form.{form_link, form}
use Rattle.rules.specs.Needs.{ruled}
use Rattle.rules.specs.Step.{by_answer, delivered, elect, presented, step, agreed_as, holds}
use Rattle.le.specs.Le.{le}
use Rattle.cells.specs.Cells.{chain}
use Rattle.cells.specs.Groups.{groups_bytes}
use Rattle.image.specs.Image.{numbers_from, boxes_of, by_sender, links_of, general_body, box_body}
use Rattle.image.specs.Image.{letter_bytes, link_bytes, mail_body, bodies, contents, table_of}
use Rattle.image.specs.Image.{image_of}
use Rattle.print.specs.Decimal.{decimal_of, spaced}
use Rattle.print.specs.Text.{done_text, refused_text}
use Rattle.lines.specs.Table.{starts, word_of}
use Rattle.lines.specs.Read.{grown, finished, byte_read, bytes_read, line_of, read_line}
use Rattle.trace.specs.Lines.{lines_from, texts}
use Rattle.trace.specs.Replay.{trace_sizes, opened, played, judged, up_to, told_text, told_next}
use Rattle.trace.specs.Replay.{line_text, line_next, replay}
use Rattle.starred.specs.Table.{stars, star_bytes, told}

pub starred : each told stars ≡ true
unfolding stars star_bytes ones ones_in pick all each every tally sizes_form proper record_form bit
    joined without digit has set_form full_set in_state in_phase new_pn first_cause
    unless settled others
    under_of higher room_next took_kept took_book cleared noted has_told behind
    lagging improves
    bettered raised counted uncounted replied last_verdict on_last unagreed_of
    on_collect begin_verdict
    on_begin accept_verdict on_accept on_commit on_lease lease_ack_verdict on_lease_ack of_kind
    on_mail elected
    can_recover recover can_collect best_held collect started leased can_ready has_previous ready
    can_offer offer can_propose propose can_agree agree can_finish finish acted held_at
    written enclosed
    fresh_head fresh posted room first_form count_form peer_form form_box form_kind
    form_letter form_link
    form ruled by_answer delivered elect presented step agreed_as holds decimal_of spaced done_text
    refused_text starts word_of grown finished byte_read bytes_read line_of read_line
    lines_from texts
    trace_sizes opened played judged up_to told_text told_next line_text line_next replay le chain
    groups_bytes numbers_from boxes_of by_sender links_of general_body box_body
    letter_bytes link_bytes
    mail_body bodies contents table_of image_of
starred = refl
