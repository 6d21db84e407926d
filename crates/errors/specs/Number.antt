-- "Each refusal returns its number"
use Rattle.std.specs.Prelude.{ℕ}
use Rattle.errors.specs.declared.Error.{Error}
use Rattle.errors.specs.declared.Error.TheVariants as error

abbrev pub number_of : Error → ℕ
-- packet not all there yet
number_of error.Incomplete = 1
-- first byte not 00
number_of error.NoStart = 2
-- L below 4
number_of error.ShortPart = 3
-- a 00 among the encoded bytes present
number_of error.StrayZero = 4
-- a block passes the end
number_of error.BlockPastEnd = 5
-- payload length differs from message length less 3
number_of error.PayloadLength = 6
-- checksum differs
number_of error.Checksum = 7
-- type unknown, or its payload length not allowed
number_of error.MessageType = 8
-- table, or state of a line, not lawful
number_of error.Unlawful = 9
-- socket above 7
number_of error.NoSocket = 10
-- catalogue not as it must be
number_of error.IllegalCatalogue = 11
-- device type not in the catalogue
number_of error.UnknownDevice = 12
-- socket without a slot, all four slots taken
number_of error.NoSlot = 13
-- UID at another socket
number_of error.UidElsewhere = 14
-- socket has no device
number_of error.NoDevice = 15
-- a set bit has no readable parameter
number_of error.NotReadable = 16
-- values longer or shorter than the bits require
number_of error.DataLength = 17
-- BOOL neither 0 nor 1
number_of error.NoFlag = 18
-- PING or DEVICE_WRITE handed to the table
number_of error.NotForHub = 19
-- an area has less room than the call asks for
number_of error.NoRoom = 20
-- list bytes end inside an item
number_of error.CutShort = 21
-- outermost code not a list code
number_of error.NoListCode = 22
-- count below 0
number_of error.NegativeCount = 23
-- typed list of 0 elements, or a 256 list of at least one element, all of one kind other than list
number_of error.WrongForm = 24
-- string length below 1, blob length below 0, or a string's zero misplaced or missing at its end
number_of error.WrongString = 25
-- element code unknown
number_of error.UnknownCode = 26
-- depth above 8
number_of error.TooDeep = 27
-- an item would end beyond the limit of the list
number_of error.TooLong = 28
-- bytes left after a list
number_of error.BytesLeft = 29
-- rows and store do not describe exactly one list
number_of error.NoList = 30
-- a row has no text form
number_of error.NoTextForm = 31
-- not the text of a list
number_of error.NoText = 32
-- the key is in neither list
number_of error.NoEntry = 33
