-- That the sessions of a server may be sent to another thread, struct by struct: each is sent where its fields are, and what contracts alone
-- remember is nothing that is sent. A search over a whole session would be too long.
use denote.RattleType.{RattleType}
use denote.Ref.{NamedLft}
use denote.Param.Send.{IsSend, view_send, sendable}
use denote.Param.SendFields.{as_row_send, declared_send, variants_send}
use Rattle.std.proofs.Crossing.{crosses}
use Rattle.std.specs.contracts.snapshot.Snapshot as Snapshot
use Rattle.gp_plain.specs.contracts.body.Body as Body
use Rattle.gp_intake.specs.contracts.body.Whole as Whole
use Rattle.gp_hub.specs.contracts.pass.HubPass as HubPass
use Rattle.gp_hub.proofs.hub.Hub.TheSendSync.{the_sync}
use Rattle.gp_hub.proofs.pass.HubPass.TheSendSync.{the_send}
use Rattle.gp_outbox.proofs.outbox.Outbox.TheSendSync as outbox
use Rattle.gp_outside.specs.declared.link.Link as link
use Rattle.gp_session.specs.contracts.seat.Seat as Seat
use Rattle.gp_session.specs.contracts.seat.Seat.TheInside as Inside
use Rattle.gp_session.specs.contracts.wire.Wire as Wire
use Rattle.gp_session.specs.contracts.wire.Wire.TheInside as WireInside
use Rattle.gp_session_publish.proofs.cause.Cause.TheSendSync as cause
use Rattle.gp_session_publish.proofs.publishing.ItemsLeft.TheSendSync as items
use Rattle.gp_session_publish.proofs.reading_body.ReadingBody.TheSendSync as body
use Rattle.gp_session_publish.proofs.reading_head.ReadingHead.TheSendSync as head
use Rattle.gp_session_publish.specs.contracts.answering.Answering as Answering
use Rattle.gp_session_publish.specs.contracts.publishing.Publishing as Publishing
use Rattle.gp_session_publish.specs.contracts.refusing.Refusing as Refusing
use Rattle.gp_session_publish.specs.contracts.live.Live as Live
use Rattle.gp_session_publish.specs.contracts.live.Live.TheInside as LiveInside
use Rattle.gp_session_publish.specs.contracts.session.Open as Open
use Rattle.gp_session_publish.specs.contracts.session.Open.TheInside as OpenInside
use Rattle.gp_session_publish.specs.contracts.stage.Stage as Stage
use Rattle.gp_session_publish.specs.contracts.session.PublishSession as PublishSession
use Rattle.gp_session_publish.specs.contracts.session.PublishSession.TheInside as SessionInside
use Rattle.gp_plain.proofs.body.Body.TheSendSync as body_bytes
use Rattle.gp_plain.proofs.http.Address.TheSendSync as address
use Rattle.gp_plain.proofs.http.Signer.TheSendSync as signer
use Rattle.gp_plain.proofs.reply.EndCause.TheSendSync as end_cause
use Rattle.gp_plain.specs.contracts.http.Response as Response
use Rattle.gp_body.proofs.reader.BodyReader.TheSendSync as reader
use Rattle.gp_hub.proofs.outcome.Why.TheSendSync as why
use Rattle.gp_routes.proofs.route.Routes.TheSendSync as routes
use Rattle.gp_outside.specs.declared.dial.Dial as dial
use Rattle.gp_outside.specs.declared.clock.Clock as clock
use Rattle.gp_exchange.proofs.answer.Last.TheSendSync as last
use Rattle.gp_exchange.proofs.heading.Heading.TheSendSync as heading
use Rattle.gp_exchange.proofs.sending.Sending.TheSendSync as sending
use Rattle.gp_exchange.specs.contracts.place.Asked as TalkAsked
use Rattle.gp_exchange.specs.contracts.place.Asked.TheInside as TalkAskedInside
use Rattle.gp_exchange.specs.contracts.place.Over as Over
use Rattle.gp_exchange.specs.contracts.place.Place as Place
use Rattle.gp_exchange.specs.contracts.reading.Reading as Reading
use Rattle.gp_exchange.specs.contracts.exchange.Exchange as Exchange
use Rattle.gp_exchange.specs.contracts.exchange.Exchange.TheInside as ExchangeInside
use Rattle.gp_session.specs.contracts.line.Line as Line
use Rattle.gp_session.specs.contracts.line.Line.TheInside as LineInside
use Rattle.gp_session.specs.contracts.watch.Watch as Watch
use Rattle.gp_session.specs.contracts.watch.Watch.TheInside as WatchInside
use Rattle.gp_plain.proofs.event.HoldSpec.TheSendSync as spec
use Rattle.gp_plain.proofs.http.Response.TheSendSync as response
use Rattle.gp_plain.proofs.roomed.Roomed.TheSendSync as roomed
use Rattle.gp_plain.proofs.reply.HoldReport.TheSendSync as report
use Rattle.gp_instruct_json.specs.contracts.answer.Answer as Answer
use Rattle.gp_plain.proofs.name.ItemId.TheSendSync as item_id
use Rattle.gp_plain.specs.contracts.http.Address as Address
use Rattle.gp_plain.specs.contracts.name.ItemId as ItemId
use Rattle.gp_plain.specs.contracts.name.Name as Name
use Rattle.gp_recover.proofs.page.PageFault.TheSendSync as page_fault
use Rattle.gp_recover.proofs.reader.PageReader.TheSendSync as page_reader
use Rattle.gp_recover.proofs.unbegun.Unbegun.TheSendSync as unbegun
use Rattle.gp_recover.specs.contracts.heading.Heading as PageHeading
use Rattle.gp_recover.specs.contracts.page.Page as Page
use Rattle.gp_recover.specs.contracts.reading.Reading as PageReading
use Rattle.gp_recover.specs.contracts.recovered.Last as PageLast
use Rattle.gp_recover.specs.contracts.recovery.Recovery as Recovery
use Rattle.gp_recover.specs.contracts.recovery.Recovery.TheInside as RecoveryInside
use Rattle.gp_recover.specs.contracts.stage.Over as PageOver
use Rattle.gp_recover.specs.contracts.stage.Sought as Sought
use Rattle.gp_recover.specs.contracts.stage.Sought.TheInside as SoughtInside
use Rattle.gp_recover.specs.contracts.stage.Stage as PageStage
use Rattle.gp_again.proofs.again.Again.TheSendSync as again
use Rattle.gp_session.proofs.paging.StreamPage.TheSendSync as stream_page
use Rattle.gp_session_recover.specs.contracts.open.Open as OpenTalk
use Rattle.gp_session_recover.specs.contracts.recovering.Recovering as Recovering
use Rattle.gp_session_recover.specs.contracts.recovering.Recovering.TheInside as RecoveringInside
use Rattle.gp_session_recover.specs.contracts.talk.Talk as Talk
use Rattle.gp_session_hold.proofs.hold.KeptHold.TheSendSync as kept_hold
use Rattle.gp_session_hold.specs.contracts.hold.KeptHold as KeptHold
use Rattle.gp_session_hold.specs.contracts.stream.Stream as Stream
use Rattle.gp_session_hold.specs.contracts.stream.Stream.TheInside as StreamInside
use Rattle.gp_session_wait.proofs.answer.Answer.TheSendSync as own_answer
use Rattle.gp_session_wait.proofs.opening.Opening.TheSendSync as poll_opening
use Rattle.gp_session_wait.specs.contracts.seeking.LongPoll as LongPoll
use Rattle.gp_session_wait.specs.contracts.seeking.LongPoll.TheInside as LongPollInside
use Rattle.gp_session_wait.specs.contracts.wait.Wait as Wait
use Rattle.gp_session_wait.specs.contracts.wait.Wait.TheInside as WaitInside
use Rattle.gp_plain.specs.contracts.event.HoldSpec as HoldSpec
use Rattle.gp_plain.proofs.name.Name.TheSendSync as name
use Rattle.gp_session_http.specs.contracts.poll.Poll as Poll
use Rattle.gp_session_http.specs.contracts.beginning.Beginning as Beginning
use Rattle.gp_session_http.specs.contracts.denying.Denying as Denying
use Rattle.gp_session_http.specs.contracts.waiting.Waiting as Waiting
use Rattle.gp_session_http.specs.contracts.answering.Answering as HttpAnswering
use Rattle.gp_session_http.specs.contracts.departing.Departing as Departing
use Rattle.gp_maker.specs.contracts.client.Serving as Serving
use Rattle.gp_maker.specs.contracts.publisher.Publishing as Publisher
use Rattle.gp_session_http.proofs.asked.Asked.TheSendSync as asked
use Rattle.gp_session_http.proofs.leaving.Parting.TheSendSync as parting
use Rattle.gp_session_http.specs.contracts.attaching.Attaching as Attaching
use Rattle.gp_session_http.specs.contracts.closing.Closing as Closing
use Rattle.gp_session_http.specs.contracts.declining.Declining as Declining
use Rattle.gp_session_http.specs.contracts.gathering.Gathering as Gathering
use Rattle.gp_session_http.specs.contracts.giving.Giving as Giving
use Rattle.gp_session_http.specs.contracts.grant.Grant as Grant
use Rattle.gp_session_http.specs.contracts.held.Held as Held
use Rattle.gp_session_http.specs.contracts.leaving.Leaving as Leaving
use Rattle.gp_session_http.specs.contracts.session.Phase as Phase
use Rattle.gp_session_http.specs.contracts.streaming.Streaming as Streaming
use Rattle.gp_session_http.proofs.cause.Cause.TheSendSync as http_cause
use Rattle.gp_session_http.proofs.reading_body.ReadingBody.TheSendSync as http_body
use Rattle.gp_session_http.proofs.reading_head.ReadingHead.TheSendSync as http_head
use Rattle.gp_session_http.specs.contracts.asked.Asked as Asked
use Rattle.gp_session_http.specs.contracts.asking.Asking as Asking
use Rattle.gp_session_http.specs.contracts.failing.Failing as Failing
use Rattle.gp_session_http.specs.contracts.finishing.Finishing as Finishing
use Rattle.gp_session_http.specs.contracts.live.Live as HttpLive
use Rattle.gp_session_http.specs.contracts.live.Live.TheInside as HttpLiveInside
use Rattle.gp_session_http.specs.contracts.passed.Passed as Passed
use Rattle.gp_session_http.specs.contracts.passing.Passing as Passing
use Rattle.gp_session_http.specs.contracts.refusing.Refusing as HttpRefusing
use Rattle.gp_session_http.specs.contracts.session.Devices as Devices
use Rattle.gp_session_http.specs.contracts.session.Devices.TheInside as DevicesInside
use Rattle.gp_session_http.specs.contracts.session.HttpSession as HttpSession
use Rattle.gp_session_http.specs.contracts.session.HttpSession.TheInside as HttpInside
use Rattle.gp_session_http.specs.contracts.session.Open as HttpOpen
use Rattle.gp_session_http.specs.contracts.session.Open.TheInside as HttpOpenInside
use Rattle.gp_session_http.specs.contracts.stage.Stage as HttpStage

pub kept : (Y : RattleType) → IsSend (Snapshot.the_row Y)
kept Y = search crosses depth 20

pub inside_send : (ℓ : NamedLft) → IsSend (Inside.the_row ℓ)
inside_send ℓ = declared_send (Inside.the_type ℓ) (search (the_sync, sendable) depth 20, (the_send, (kept HubPass.the_row, tt)))

pub seat_send : (ℓ : NamedLft) → IsSend (Seat.the_row ℓ)
seat_send ℓ = view_send _ _ _ _ _ (inside_send ℓ)

pub answering_send : IsSend Answering.the_row
answering_send = declared_send Answering.the_type (search sendable depth 20, (kept Whole.the_row, tt))

pub publishing_send : IsSend Publishing.the_row
publishing_send = declared_send Publishing.the_type (items.the_send, (search sendable depth 20, (kept Whole.the_row, tt)))

pub refusing_send : IsSend Refusing.the_row
refusing_send = declared_send Refusing.the_type (cause.the_send, (kept Body.the_row, tt))

pub stage_send : IsSend Stage.the_row
stage_send = variants_send Stage.enum ((head.the_send, tt), ((body.the_send, tt), ((publishing_send, tt), ((answering_send, tt), ((refusing_send, tt), tt)))))

module _ (ℓ : NamedLft) (L : RattleType) (g : link.Ghosts L.Denot) (s : IsSend L) where
  pub wire_send : IsSend (Wire.the_row L g)
  wire_send = view_send _ _ _ _ _ (declared_send (WireInside.the_type L g) (search (s, sendable) depth 20, (kept L, (outbox.the_send, tt))))

  pub live_send : IsSend (Live.the_row ℓ L g)
  live_send = view_send _ _ _ _ _ (declared_send (LiveInside.the_type ℓ L g) (search crosses depth 20, (wire_send, (seat_send ℓ, tt))))

  pub open_send : IsSend (Open.the_row ℓ L g)
  open_send = view_send _ _ _ _ _ (declared_send (OpenInside.the_type ℓ L g) (live_send, (stage_send, tt)))

  pub publish_send : IsSend (PublishSession.the_row ℓ L g)
  publish_send = view_send _ _ _ _ _ (declared_send (SessionInside.the_type ℓ L g) (search (open_send, sendable) depth 20, (search (s, as_row_send, variants_send, sendable) depth 20, tt)))

pub talk_asked_send : IsSend TalkAsked.the_row
talk_asked_send = view_send _ _ _ _ _ (declared_send TalkAskedInside.the_type (address.the_send, (kept Body.the_row, (body_bytes.the_send, (search sendable depth 20, tt)))))

pub reading_send : IsSend Reading.the_row
reading_send = declared_send Reading.the_type (kept Response.the_row, (reader.the_send, (body_bytes.the_send, tt)))

pub over_send : IsSend Over.the_row
over_send = declared_send Over.the_type (last.the_send, (search sendable depth 20, (search (kept, sendable) depth 20, tt)))

pub place_send : IsSend Place.the_row
place_send = variants_send Place.enum ((body_bytes.the_send, tt), ((body_bytes.the_send, tt), ((sending.the_send, tt), ((heading.the_send, tt), ((reading_send, tt), ((over_send, tt), tt))))))

pub exchange_send : IsSend Exchange.the_row
exchange_send = view_send _ _ _ _ _ (declared_send ExchangeInside.the_type (search crosses depth 20, (talk_asked_send, (place_send, tt))))

pub passed_send : IsSend Passed.the_row
passed_send = declared_send Passed.the_type (kept Asked.the_row, (kept Response.the_row, (search sendable depth 20, (search sendable depth 20, (search sendable depth 20, tt)))))

pub asking_send : IsSend Asking.the_row
asking_send = declared_send Asking.the_type (asked.the_send, (exchange_send, tt))

pub failing_send : IsSend Failing.the_row
failing_send = declared_send Failing.the_type (kept Asked.the_row, (kept Exchange.the_row, (why.the_send, tt)))

pub passing_send : IsSend Passing.the_row
passing_send = declared_send Passing.the_type (passed_send, (exchange_send, tt))

pub finishing_send : IsSend Finishing.the_row
finishing_send = declared_send Finishing.the_type (passed_send, (kept Exchange.the_row, (end_cause.the_send, tt)))

pub http_refusing_send : IsSend HttpRefusing.the_row
http_refusing_send = declared_send HttpRefusing.the_type (http_cause.the_send, (kept Body.the_row, tt))

pub gathering_send : IsSend Gathering.the_row
gathering_send = declared_send Gathering.the_type (asked.the_send, (exchange_send, (response.the_send, (body_bytes.the_send, tt))))

pub giving_send : IsSend Giving.the_row
giving_send = declared_send Giving.the_type (kept Asked.the_row, (kept Exchange.the_row, (kept Answer.the_row, (search sendable depth 20, tt))))

pub grant_send : IsSend Grant.the_row
grant_send = declared_send Grant.the_type (kept Asked.the_row, (kept Exchange.the_row, (kept Answer.the_row, (search sendable depth 20, (search sendable depth 20, tt)))))

pub attaching_send : IsSend Attaching.the_row
attaching_send = declared_send Attaching.the_type (grant_send, (body_bytes.the_send, (spec.the_send, (search (again.the_send, as_row_send, sendable) depth 20, tt))))

pub declining_send : IsSend Declining.the_row
declining_send = declared_send Declining.the_type (grant_send, tt)

pub stream_send : IsSend Stream.the_row
stream_send = view_send _ _ _ _ _ (declared_send StreamInside.the_type (search crosses depth 20, (kept_hold.the_send, (search sendable depth 20, (kept Body.the_row, tt)))))

pub sought_send : IsSend Sought.the_row
sought_send = view_send _ _ _ _ _ (declared_send SoughtInside.the_type (kept Address.the_row, (kept Body.the_row, (kept Name.the_row, (kept ItemId.the_row, tt)))))

pub page_heading_send : IsSend PageHeading.the_row
page_heading_send = declared_send PageHeading.the_type (exchange_send, (name.the_send, (item_id.the_send, tt)))

pub page_reading_send : IsSend PageReading.the_row
page_reading_send = declared_send PageReading.the_type (exchange_send, (page_reader.the_send, tt))

pub page_last_send : IsSend PageLast.the_row
page_last_send = variants_send PageLast.enum ((kept Page.the_row, tt), ((page_fault.the_send, tt), (tt, tt)))

pub page_over_send : IsSend PageOver.the_row
page_over_send = declared_send PageOver.the_type (page_last_send, (kept Exchange.the_row, tt))

pub page_stage_send : IsSend PageStage.the_row
page_stage_send = variants_send PageStage.enum ((unbegun.the_send, tt), ((page_heading_send, tt), ((page_reading_send, tt), ((page_over_send, tt), (tt, tt)))))

pub recovery_send : IsSend Recovery.the_row
recovery_send = view_send _ _ _ _ _ (declared_send RecoveryInside.the_type (search crosses depth 20, (sought_send, (page_stage_send, tt))))

pub open_talk_send : IsSend OpenTalk.the_row
open_talk_send = declared_send OpenTalk.the_type (recovery_send, (item_id.the_send, (search (crosses, sendable) depth 20, tt)))

pub talk_send : IsSend Talk.the_row
talk_send = variants_send Talk.enum (tt, ((open_talk_send, tt), ((stream_page.the_send, tt), (tt, tt))))

pub recovering_send : IsSend Recovering.the_row
recovering_send = view_send _ _ _ _ _ (declared_send RecoveringInside.the_type (search crosses depth 20, (stream_send, (search (again.the_send, as_row_send, sendable) depth 20, (talk_send, tt)))))

pub streaming_send : IsSend Streaming.the_row
streaming_send = declared_send Streaming.the_type (grant_send, (recovering_send, tt))

pub closing_send : IsSend Closing.the_row
closing_send = declared_send Closing.the_type (grant_send, (kept KeptHold.the_row, (end_cause.the_send, tt)))

pub leaving_send : IsSend Leaving.the_row
leaving_send = declared_send Leaving.the_type (grant_send, (kept_hold.the_send, (parting.the_send, tt)))

pub poll_send : IsSend Poll.the_row
poll_send = declared_send Poll.the_type (kept Asked.the_row, (kept Exchange.the_row, (kept Answer.the_row, tt)))

pub long_poll_send : IsSend LongPoll.the_row
long_poll_send = view_send _ _ _ _ _ (declared_send LongPollInside.the_type (kept_hold.the_send, (kept HoldSpec.the_row, tt)))

pub wait_send : IsSend Wait.the_row
wait_send = view_send _ _ _ _ _ (declared_send WaitInside.the_type (search crosses depth 20, (long_poll_send, (own_answer.the_send, (search (name.the_send, as_row_send, sendable) depth 20, (search sendable depth 20, tt))))))

pub beginning_send : IsSend Beginning.the_row
beginning_send = declared_send Beginning.the_type (poll_send, (poll_opening.the_send, (search (asked.the_send, as_row_send, sendable) depth 20, tt)))

pub denying_send : IsSend Denying.the_row
denying_send = declared_send Denying.the_type (poll_send, tt)

pub waiting_send : IsSend Waiting.the_row
waiting_send = declared_send Waiting.the_type (poll_send, (wait_send, (search (asked.the_send, as_row_send, sendable) depth 20, (search (crosses, sendable) depth 20, tt))))

pub http_answering_send : IsSend HttpAnswering.the_row
http_answering_send = declared_send HttpAnswering.the_type (poll_send, (kept KeptHold.the_row, (end_cause.the_send, (search sendable depth 20, tt))))

pub departing_send : IsSend Departing.the_row
departing_send = declared_send Departing.the_type (poll_send, (kept_hold.the_send, (parting.the_send, tt)))

pub held_send : IsSend Held.the_row
held_send = variants_send Held.enum ((attaching_send, tt), ((declining_send, tt), ((streaming_send, tt), ((closing_send, tt), ((leaving_send, tt), ((beginning_send, tt), ((denying_send, tt), ((waiting_send, tt), ((http_answering_send, tt), ((departing_send, tt), tt))))))))))

pub http_stage_send : IsSend HttpStage.the_row
http_stage_send = variants_send HttpStage.enum ((http_head.the_send, tt), ((http_body.the_send, tt), ((http_refusing_send, tt), ((asking_send, tt), ((gathering_send, tt), ((giving_send, tt), ((failing_send, tt), ((passing_send, tt), ((finishing_send, tt), tt)))))))))

pub phase_send : IsSend Phase.the_row
phase_send = variants_send Phase.enum ((http_stage_send, tt), ((held_send, tt), tt))

module _ (ℓ : NamedLft) (L D C : RattleType) (g : link.Ghosts L.Denot) (h : dial.Ghosts D.Denot) (i : clock.Ghosts C.Denot) (l : IsSend L) (d : IsSend D) (c : IsSend C) where
  pub line_send : IsSend (Line.the_row D h)
  line_send = view_send _ _ _ _ _ (declared_send (LineInside.the_type D h) (search (d, sendable) depth 20, (kept D, tt)))

  pub watch_send : IsSend (Watch.the_row C i)
  watch_send = view_send _ _ _ _ _ (declared_send (WatchInside.the_type C i) (search (c, sendable) depth 20, (kept C, (search sendable depth 20, tt))))

  pub http_live_send : IsSend (HttpLive.the_row ℓ L D C g h i)
  http_live_send = view_send _ _ _ _ _ (declared_send (HttpLiveInside.the_type ℓ L D C g h i) (search crosses depth 20, (wire_send ℓ L g l, (line_send, (watch_send, (seat_send ℓ, (search (routes.the_sync, sendable) depth 20, (search (signer.the_sync, sendable) depth 20, (body_bytes.the_send, (search (roomed.the_send, report.the_send, as_row_send, sendable) depth 20, tt))))))))))

  pub http_open_send : IsSend (HttpOpen.the_row ℓ L D C g h i)
  http_open_send = view_send _ _ _ _ _ (declared_send (HttpOpenInside.the_type ℓ L D C g h i) (http_live_send, (phase_send, tt)))

  pub devices_send : IsSend (Devices.the_row L D C g h i)
  devices_send = view_send _ _ _ _ _ (declared_send (DevicesInside.the_type L D C g h i) (search (l, sendable) depth 20, (search (d, sendable) depth 20, (search (c, sendable) depth 20, tt))))

  pub http_send : IsSend (HttpSession.the_row ℓ L D C g h i)
  http_send = view_send _ _ _ _ _ (declared_send (HttpInside.the_type ℓ L D C g h i) (search (http_open_send, sendable) depth 20, (search (devices_send, sendable) depth 20, tt)))

module _ (ℓ : NamedLft) (K A D C I G L : RattleType) (g : link.Ghosts L.Denot) (h : dial.Ghosts D.Denot) (i : clock.Ghosts C.Denot) (l : IsSend L) (d : IsSend D) (c : IsSend C) where
  pub serving_send : IsSend (Serving.the_row ℓ K A D C I G L g h i)
  serving_send = declared_send (Serving.the_type ℓ K A D C I G L g h i) (search (http_send, sendable) depth 20, tt)

module _ (ℓ : NamedLft) (K A D C I G L : RattleType) (g : link.Ghosts L.Denot) (l : IsSend L) where
  pub publisher_send : IsSend (Publisher.the_row ℓ K A D C I G L g)
  publisher_send = declared_send (Publisher.the_type ℓ K A D C I G L g) (search (publish_send, sendable) depth 20, tt)
