pub mod PacketCall
pub mod ListCall
pub mod StreamCall
pub mod WriteCall
pub mod HubCall
pub mod TextCall
pub mod SettingCall
pub mod LineCall
