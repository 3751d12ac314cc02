-- Each section's rows are taken from what is left behind the section before it.
use Rattle.format.proofs.PackedLaws.{reads-country, reads-tag, reads-switch, reads-province, reads-owner-event, reads-le16, reads-war-event, reads-ledger, reads-point}
use Rattle.format.specs.Head.{head_bytes, country_bytes, previous_bytes, switch_bytes, province_bytes, owner_event_bytes, war_bytes, war_event_bytes, ledger_bytes, point_bytes}
use Rattle.record_check.proofs.ReadLaws.{Behind, section}
use Rattle.record_check.proofs.sections.sections_of.Goals as goal

pub returns : goal.returns
returns c =
    let h = c.args.h in
    let head = c.in_ok-rest.ensures.cases in
    let start : Behind c.args.s.now head_bytes c.in_ok-rest.rest.now = record { inside = head.0; left = head.2 } in
    let countries = section start country_bytes h.countries reads-country c.in_ok-countries.ensures in
    let previous = section countries.behind previous_bytes h.previous reads-tag c.in_ok-previous.ensures in
    let switches = section previous.behind switch_bytes h.switches reads-switch c.in_ok-switches.ensures in
    let provinces = section switches.behind province_bytes h.provinces reads-province c.in_ok-provinces.ensures in
    let events = section provinces.behind owner_event_bytes h.events reads-owner-event c.in_ok-events.ensures in
    let wars = section events.behind war_bytes h.wars reads-le16 c.in_ok-wars.ensures in
    let war_events = section wars.behind war_event_bytes h.war_events reads-war-event c.in_ok-war_events.ensures in
    let ledgers = section war_events.behind ledger_bytes h.ledgers reads-ledger c.in_ok-ledgers.ensures in
    let points = section ledgers.behind point_bytes h.points reads-point c.in_ok-points.ensures in
    record {
      countries = countries.told;
      previous = previous.told;
      switches = switches.told;
      provinces = provinces.told;
      events = events.told;
      wars = wars.told;
      war_events = war_events.told;
      ledgers = ledgers.told;
      points = points.told;
      strings = points.behind.left;
      inside = points.behind.inside;
    }
