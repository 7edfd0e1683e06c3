-- What a session says of its link and its pass after every move, row by row. All is said since the session began.
use Rattle.std.specs.Prelude.{◌≡◌, ℕ, ◌+◌, ◌<◌, ◌^◌, true, List, [], ◌++◌, length, map, All}
use Rattle.gp_plain.specs.declared.event.Entry.{Entry}
use Rattle.gp_plain.specs.declared.event.Event.TheVariants.{Publish}
use Rattle.gp_plain.specs.declared.item.Item.{Item}
use Rattle.gp_plain.specs.Fit.{fits}
use Rattle.gp_outside.specs.Links.{LinkTells, LinkLater}
use Rattle.gp_hub.specs.Passes.{HubView}
use Rattle.gp_hub.specs.Own.{mine}
use Rattle.gp_items.specs.Items.{AreItemsOf}
use Rattle.gp_intake.specs.Heads.{IsBegun}
use Rattle.gp_intake.specs.Requests.{IsHeaded}
use Rattle.gp_session.specs.Wires.{RequestRow, BytesRow, exactly, new_wire}
use Rattle.gp_session.specs.Seats.{SeatRow, HasNoHolds, IsServed, publish_of, new_seat}
use Rattle.gp_session_publish.specs.declared.stage.Stage.{Stage}
use Rattle.gp_session_publish.specs.declared.stage.Stage.TheVariants.{ReadingHead, ReadingBody, Publishing, Answering, Refusing}
use Rattle.gp_session_publish.specs.Routing.{IsRouted, IsPublish, IsRefusedFor, refusal_text, answer_text}
use Rattle.gp_session_publish.specs.Views.{LiveView}

abbrev pub new_live : LinkTells → HubView → LiveView
new_live link pass = record { wire = new_wire link; seat = new_seat pass }

-- Row: the request. What the bytes received are.
abbrev pub Asks : Stage → List ℕ → Type 0
Asks (ReadingHead s) received = (received ≡ s.intake) × IsBegun received
Asks (ReadingBody s) received = IsHeaded s.intake received × IsRouted s.intake.head s.intake.path
Asks (Publishing s) received = IsPublish s.request.value received
Asks (Answering s) received = IsPublish s.request.value received
Asks (Refusing s) received = IsRefusedFor s.cause s.method.value received

-- an item that may be published
abbrev pub Fits : Item → Type 0
Fits item = fits (Publish item) ≡ true

-- Row: the entries. The session published the first items of the body, in order, and these are left.
pub record HasPublished (number : ℕ) (body : List ℕ) (left : List Item) (published : ℕ) (made : List Entry) : Type 0 where
  pub all : List Item
  pub done : List Item
  pub items : AreItemsOf body all
  pub split : all ≡ done ++ left
  pub entries : made ≡ map (publish_of number) done
  pub count : published ≡ length done
  pub fit : All Fits left
  pub few : published + length left < 2 ^ 32

-- nothing was published before the request was read to its end, nor of one that is refused
abbrev pub Makes : Stage → ℕ → List Entry → Type 0
Makes (ReadingHead s) number made = made ≡ []
Makes (ReadingBody s) number made = made ≡ []
Makes (Publishing s) number made = HasPublished number s.request.value.body s.left s.published made
Makes (Answering s) number made = HasPublished number s.request.value.body [] s.published made
Makes (Refusing s) number made = made ≡ []

-- Row: the bytes. What was sent, followed by what waits.
abbrev pub text_of : Stage → List ℕ
text_of (ReadingHead s) = []
text_of (ReadingBody s) = []
text_of (Publishing s) = []
text_of (Answering s) = answer_text
text_of (Refusing s) = refusal_text s.cause s.method.value

-- what no move of a session changes, but for the entries that it makes
pub record Stays (l : LiveView) : Type 0 where
  pub holds : HasNoHolds l.seat
  pub seat : SeatRow l.seat
  pub served : IsServed l.seat
  pub later : LinkLater l.wire.start l.wire.link

pub record Told (l : LiveView) (stage : Stage) : Type 0 where
  pub request : RequestRow l.wire (Asks stage)
  pub entries : Makes stage l.seat.pass.number (mine l.seat.pass)
  pub bytes : BytesRow l.wire (exactly (text_of stage))
  pub stays : Stays l
