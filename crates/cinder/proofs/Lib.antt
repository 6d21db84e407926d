pub mod PacketAnswers
pub mod ListAnswers
pub mod StreamAnswers
pub mod WriteAnswers
pub mod PacketTrips
pub mod HubAnswers
pub mod SettingAnswers
